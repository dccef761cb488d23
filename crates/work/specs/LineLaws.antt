-- A figure through one level, and through the levels of a line. Assumes nothing.
use Rattle.std.specs.Prelude.{◌≡◌, refl, ℕ, suc, ◌+◌, ◌-◌, ◌^◌, ◌≤◌, ◌<◌, ℤ}
use Rattle.std.proofs.Math.Path.{sym, ap}
use Rattle.std.proofs.Common.{◌∙◌, subst}
use mathlib.Core.List.{List, [], ◌∷◌}
use native.Mathlib.Omega.{arith}
use Rattle.algebra.specs.Run.{Level, step, through}
use Rattle.algebra.specs.Sizes.{costs}
use Rattle.algebra.proofs.Sizes.{Spent, spend}
use Rattle.modes.specs.FourModes.{Amounts, limit}
use Rattle.figure.specs.Mode.{Mode, mode_of}
use Rattle.figure.specs.Stored.{IsStored, size_of, amounts, combined, passed, Combines, Passes}
use Rattle.plan_work.proofs.WorkLaws.{levels-none}
use Rattle.run_level.specs.declared.Place.{Place}
use Rattle.run_level.specs.declared.RunLevel.{RunLevel}
use Rattle.run_level.specs.Levels.{piece_of, level_at, level_for, Reads}
use Rattle.run_level.specs.StandsFor.{IsLevel, level-stored}
use Rattle.run_level.specs.Along.{levels_of}
use Rattle.run_level.specs.AlongLaws.{levels-cons}
use Rattle.work.specs.Stores.{Stores, own, stores_same, size_is, size-stored, can-combine, stores-combined, can-pass, stores-passed}
use Rattle.work.specs.Promised.{most, Steps, Runs}

-- ---- one level

module _ (m : ℕ) (l : RunLevel) (x : ℤ) (s : Steps m l x) where
  abbrev M : Mode
  M = mode_of m

  -- What the record holds so far, with x, and with the value after it.
  abbrev pub first_two : M.algebra.Fig
  first_two = M.algebra.◌⊗◌ (M.read l.held) (M.read x)

  abbrev pub all_three : M.algebra.Fig
  all_three = M.algebra.◌⊗◌ first_two (M.read l.left)

  room : M.sizes.size (M.read x) + (M.sizes.size (M.read l.held) + M.sizes.size (M.read l.left)) ≤ most
  room = omega (arith, s.room, size_is M x, size_is M l.held, size_is M l.left)

  first-room : M.sizes.size (M.read l.held) + M.sizes.size (M.read x) < 2 ^ 63
  first-room = omega (arith, room)

  inside-room : M.sizes.size first_two + M.sizes.size (M.read l.left) < 2 ^ 63
  inside-room = omega (arith, room, M.sizes.size-⊗ (M.read l.held) (M.read x))

  record-room : limit + M.sizes.size all_three < 2 ^ 63
  record-room = omega (arith, room, M.sizes.size-⊗ (M.read l.held) (M.read x), M.sizes.size-⊗ first_two (M.read l.left))

  module _ (h y : ℤ) (eh : h ≡ l.held) (ey : y ≡ x) where
    pub first-can : Combines M h y
    first-can = can-combine M h y _ _ (own M l.held h eh s.level.held-stored) (own M x y ey s.stored) first-room

    pub first-stores : (a b : ℤ) → b ≡ a → a ≡ combined M h y → Stores M b first_two
    first-stores a b e q = stores_same M a b first_two e (stores-combined M h y _ _ (own M l.held h eh s.level.held-stored) (own M x y ey s.stored) first-room a q)

  module _ (a v : ℤ) (sa : Stores M a first_two) (ev : v ≡ l.left) where
    pub second-can : Combines M a v
    second-can = can-combine M a v _ _ sa (own M l.left v ev s.level.left-stored) inside-room

    pub second-stores : (b c : ℤ) → c ≡ b → b ≡ combined M a v → Stores M c all_three
    second-stores b c e q = stores_same M b c all_three e (stores-combined M a v _ _ sa (own M l.left v ev s.level.left-stored) inside-room b q)

  abbrev carried : Amounts
  carried = amounts l.value l.floor l.ceiling

  module _ (b : ℤ) (sb : Stores M b all_three) where
    pub third-can : (v : ℤ) → v ≡ l.value → Passes M v b
    third-can v e = subst (λ (z : ℤ). Passes M z b) (sym e) (can-pass M carried b all_three s.level.in-range sb record-room)

    pub third-stores : (r q v f c : ℤ) → q ≡ r → v ≡ l.value → f ≡ l.floor → c ≡ l.ceiling → r ≡ passed M (amounts v f c) b → Stores M q (step M.algebra (level_for m l) (M.read x))
    unfolding step
    third-stores r q v f c e ev ef ec p =
        stores_same M r q _ e
        (stores-passed M carried b all_three s.level.in-range sb record-room r (p ∙ λ i. passed M (amounts (ev i) (ef i) (ec i)) b))

-- ---- the levels of a line

-- At this depth the levels below it are still to come.
pub record Going (row : List ℕ) (m : ℕ) (o c : Place) (low high : ℕ) (x y : ℤ) (depth : ℕ) : Type 0 where
  pub low-in : low ≤ depth
  pub high-in : depth ≤ suc high
  pub stored : IsStored (mode_of m) y
  pub room : size_of (mode_of m) y + costs (mode_of m).sizes (levels_of row m o c low (depth - low)) ≤ most
  pub same : through (mode_of m).algebra (levels_of row m o c low (depth - low)) ((mode_of m).read y) ≡ through (mode_of m).algebra (levels_of row m o c low (suc high - low)) ((mode_of m).read x)

module _ (row : List ℕ) (m : ℕ) (o c : Place) (low high : ℕ) (x : ℤ) (v : Runs row m o c low high x) where
  abbrev Here : ℤ → ℕ → Type 0
  Here y depth = Going row m o c low high x y depth

  abbrev N : Mode
  N = mode_of m

  abbrev p : List ℕ
  p = piece_of row o.piece

  abbrev q : List ℕ
  q = piece_of row c.piece

  -- All levels are low: depths are at most 63.
  pub high-low : high < 64
  high-low = let r = v.reads high v.some (omega arith) in omega (arith, r.opens.high, r.opens.is.end-high)

  pub going_start : (y : ℤ) → y ≡ x → Here y (high + 1)
  going_start y e =
      let n : high + 1 ≡ suc high = omega arith in
      subst (λ (z : ℤ). Here z (high + 1)) (sym e)
      (subst (Here x) (sym n) (record { low-in = omega (arith, v.some); high-in = omega arith; stored = v.stored; room = v.room; same = refl }))

  module _ (y : ℤ) (depth : ℕ) (g : Here y depth) (h : low < depth) where
    abbrev d : ℕ
    d = depth - 1

    pub reads-next : Reads row o c d
    reads-next = v.reads d (omega arith) (omega (arith, g.high-in))

    is-level : IsLevel m (level_at p q d)
    is-level = level-stored m p q d reads-next.opens reads-next.closes v.opener-mode v.closer-mode

    levels-are : levels_of row m o c low (depth - low) ≡ level_for m (level_at p q d) ∷ levels_of row m o c low (d - low)
    levels-are =
        let n : depth - low ≡ suc (d - low) = omega arith in
        ap (levels_of row m o c low) n ∙ levels-cons row m o c low (d - low) d (omega arith) reads-next

    here : N.sizes.size (N.read y) + costs N.sizes (level_for m (level_at p q d) ∷ levels_of row m o c low (d - low)) ≤ most
    here = subst (λ (ls : List (Level N.algebra)). N.sizes.size (N.read y) + costs N.sizes ls ≤ most) levels-are (omega (arith, g.room, size_is N y))

    spent : Spent N.sizes most (level_for m (level_at p q d)) (levels_of row m o c low (d - low)) (N.read y)
    spent = spend N.sizes most _ _ _ is-level.in-range here

    pub steps_next : (l : RunLevel) (z : ℤ) → l ≡ level_at p q d → z ≡ y → Steps m l z
    steps_next l z el ez =
        subst (λ (k : RunLevel). Steps m k z) (sym el)
        (subst (Steps m (level_at p q d)) (sym ez)
        (record { level = is-level; stored = g.stored; room = omega (arith, here, size_is N y, size_is N (level_at p q d).held, size_is N (level_at p q d).left) }))

    pub going_next : (l : RunLevel) (z r w : ℤ) → l ≡ level_at p q d → z ≡ y → w ≡ r → Stores N r (step N.algebra (level_for m l) (N.read z)) → Here w d
    unfolding through
    going_next l z r w el ez ew s =
        let f = step N.algebra (level_for m (level_at p q d)) (N.read y) in
        let t : Stores N w f = stores_same N r w f ew (subst (λ (a : N.algebra.Fig). Stores N r a) (λ i. step N.algebra (level_for m (el i)) (N.read (ez i))) s) in
        record {
          low-in = omega arith;
          high-in = omega (arith, g.high-in);
          stored = t.stored;
          room = omega (arith, spent.rest, size-stored N w f t);
          same = ap (through N.algebra (levels_of row m o c low (d - low))) t.reads ∙ ap (λ (ls : List (Level N.algebra)). through N.algebra ls (N.read y)) (sym levels-are) ∙ g.same;
        }

  pub going_end : (y : ℤ) (depth : ℕ) → Here y depth → depth ≤ low → Stores N y (through N.algebra (levels_of row m o c low (suc high - low)) (N.read x))
  unfolding through
  going_end y depth g h =
      let z : depth - low ≡ 0 = omega arith in
      let e : levels_of row m o c low (depth - low) ≡ [] = ap (levels_of row m o c low) z ∙ levels-none N.algebra _ _ _ _ low in
      record { stored = g.stored; reads = sym (ap (λ (ls : List (Level N.algebra)). through N.algebra ls (N.read y)) e) ∙ g.same }
