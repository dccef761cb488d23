-- One turn of each loading loop, and the steps of a load. Assumes nothing.
use Rattle.std.specs.Prelude.{◌≡◌, List, [], ◌∷◌, ℤ, set}
use Rattle.std.proofs.Math.Path.{refl, subst}
use Rattle.std.proofs.Common.{sym, ◌∙◌, add-zero, zero-add, suc-add}
use Prim.Native.Nat.{ℕ, zero, suc, ◌+◌, ◌-◌, ◌^◌, ◌≤◌, ◌<◌}
use Rattle.std.proofs.Math.Numerals.{add-one}
use native.Mathlib.Omega.{arith}
use Rattle.modes.specs.FourModes.{Amounts, InRange}
use Rattle.figure.specs.Mode.{Mode, mode_of}
use Rattle.figure.specs.Stored.{size_of, none, combined, Combines}
use Rattle.hill.specs.Summary.{Hill, hill}
use Rattle.hill.specs.Valid.{weight_up, weight_down}
use Rattle.hill.specs.Building.{push, join, close, merge}
use Rattle.hill.proofs.Building.{push-nil}
use Rattle.hill.proofs.Slopes.{rise-closes, fall-closes}
use Rattle.summary.specs.Judge.{mode_at, rise_at, fall_at, left_at, middle_at, value_at, floor_at, ceiling_at, held_at, IsHill}
use Rattle.summary.specs.Decode.{amounts_at, lefts_in, rights_in, hill_in}
use Rattle.summary.proofs.Values.{lefts-length, fine-rights}
use Rattle.summary.proofs.ModeValues.{Numbered, numbered}
use Rattle.summary.proofs.Hills.{AllStored, hill-valid, hill-stored}
use Rattle.slopes.specs.declared.Counts.{Counts}
use Rattle.slopes.specs.declared.Slopes.{Slopes}
use Rattle.slopes.specs.Arrays.{Arrays, arrays, Fig, slopes_of, weight_of, Able, StandsFor}
use Rattle.slopes.specs.Kept.{arrays_of}
use Rattle.slopes.specs.Steps as step
use Rattle.slopes.specs.Actions.{Pushed, CanClose, Joins, Added}
use Rattle.slopes.specs.Laws.{counts, with_held, with_left, able, restate, rise-is, fall-is, rise-slopes, fall-slopes, joins, adds, joined, close-left, pushed, after, after_more}
use Rattle.codec.specs.Promised.{Sinks, Sunk, Puts, Stacked, Loads}

-- a hill's bytes in mode m
pub in-mode : (b : List ℕ) {m : ℕ} → IsHill b → mode_at b ≡ m → Numbered (mode_at b) (mode_of m)
in-mode b v e = subst (λ (k : ℕ). Numbered (mode_at b) (mode_of k)) e (numbered (mode_at b) v.layout.mode-fits)

-- ---- what the first values weigh

module _ (M : Mode) (b : List ℕ) where
  lefts-more : (i d : ℕ) → weight_up M.algebra M.sizes (lefts_in M.read b i) ≤ weight_up M.algebra M.sizes (lefts_in M.read b (d + i))
  lefts-more i zero = rw (zero-add i) (omega arith)
  lefts-more i (suc d) = rw (suc-add d i) (omega (arith, lefts-more i d))

  pub lefts-first : (i k : ℕ) → i ≤ k → weight_up M.algebra M.sizes (lefts_in M.read b i) ≤ weight_up M.algebra M.sizes (lefts_in M.read b k)
  lefts-first i k h =
      let e : k - i + i ≡ k = omega arith in
      subst (λ (n : ℕ). weight_up M.algebra M.sizes (lefts_in M.read b i) ≤ weight_up M.algebra M.sizes (lefts_in M.read b n)) e (lefts-more i (k - i))

  rights-more : (i d : ℕ) → weight_down M.algebra M.sizes (rights_in M.read b i) ≤ weight_down M.algebra M.sizes (rights_in M.read b (d + i))
  rights-more i zero = rw (zero-add i) (omega arith)
  rights-more i (suc d) = rw (suc-add d i) (omega (arith, rights-more i d))

  rights-first : (i k : ℕ) → i ≤ k → weight_down M.algebra M.sizes (rights_in M.read b i) ≤ weight_down M.algebra M.sizes (rights_in M.read b k)
  rights-first i k h =
      let e : k - i + i ≡ k = omega arith in
      subst (λ (n : ℕ). weight_down M.algebra M.sizes (rights_in M.read b i) ≤ weight_down M.algebra M.sizes (rights_in M.read b n)) e (rights-more i (k - i))

-- ---- the left values

-- what arrays stand for as they are
pub stands-still : {M : Mode} {A : Arrays} {c : Counts} → Able M A c → StandsFor M A c (slopes_of M A c) (weight_of M (slopes_of M A c))
stands-still a = record { sound = a.sound; stored = a.stored; is = refl; fine = a.fine; light = omega arith }

module _ {M : Mode} {b : List ℕ} {k i : ℕ} {A₀ A : Arrays} {c₀ c : Counts} (p : Sinks M b k A₀ c₀) (lt : i < k) (s : Sunk M b i A₀ c₀ A c) where
  next-light : weight_of M (slopes_of M A₀ c₀) + weight_up M.algebra M.sizes (lefts_in M.read b i) + size_of M (left_at b i) < 2 ^ 62
  unfolding size_of
  next-light = let h : suc i ≤ k = omega arith in omega (arith, lefts-first M b (suc i) k h, p.light)

  pub next-joins : {x : ℤ} → x ≡ left_at b i → Joins M A c x
  next-joins ex = rw ex (joins s (p.stored i lt) next-light)

  pub next-closes : CanClose c
  next-closes =
      let l = lefts-length M.read b i in
      let r : c.nl ≡ c₀.nl + (i - c₀.n) = rise-is s ∙ rise-closes M.algebra (slopes_of M A₀ c₀) (lefts_in M.read b i) ∙ rw (l, rise-slopes M A₀ c₀, fall-slopes M A₀ c₀) in
      let f : c.n ≡ c₀.n - i = fall-is s ∙ fall-closes M.algebra (slopes_of M A₀ c₀) (lefts_in M.read b i) ∙ rw (l, fall-slopes M A₀ c₀) in
      omega (arith, p.room)

  pub next-sunk : {A' : Arrays} {c' : Counts} {x mid' : ℤ} → x ≡ left_at b i → mid' ≡ c'.mid
      → StandsFor M A' c' (close M.algebra (join M.algebra (M.read x) (slopes_of M A c))) (weight_of M (slopes_of M A c) + size_of M x)
      → Sunk M b (i + 1) A₀ c₀ A' (counts c'.nl c'.n mid')
  unfolding size_of
  next-sunk {x = x} ex em t =
      rw (em, add-one i) (restate (after_more s (λ (h : Hill (Fig M) Amounts). close M.algebra (join M.algebra (M.read (left_at b i)) h)) (size_of M (left_at b i)) (rw ex at t))
      (weight_of M (slopes_of M A₀ c₀) + weight_up M.algebra M.sizes (lefts_in M.read b (suc i))) refl (omega arith))

  -- where no record is open, the value joins the middle, and the level is left
  module _ (closed : c.n ≡ 0) {x : ℤ} (ex : x ≡ left_at b i) where
    pub leaves-fit : c.nl < 64
    leaves-fit = omega (arith, next-closes)

    pub leaves-combine : {y : ℤ} → y ≡ c.mid → Combines M y x
    leaves-combine ey = rw ey (rw closed at (adds (next-joins ex)).fits)

    pub next-leaves : {y z : ℤ} → y ≡ combined M c.mid x → z ≡ none M → Sunk M b (i + 1) A₀ c₀ (with_left A (set A.left c.nl y)) (counts (c.nl + 1) c.n z)
    next-leaves {y} ey ez =
        let j = next-joins ex in
        let a : Added M A.held c.n c.mid x A.held y = record { middle = rw closed ey; held = rw closed refl } in
        let t = joined j a in
        next-sunk ex refl (after t (close M.algebra) (close-left (able t j.light) closed next-closes (add-one c.nl) refl ez))

-- ---- the records

pub none-stacked : (b : List ℕ) (k n : ℕ) (A : Arrays) → Stacked b k 0 n A A
none-stacked b k n A m nl mid p =
    let h = slopes_of (mode_of m) A (counts nl n mid) in
    rw (add-zero n) (restate (stands-still p.able) (weight_of (mode_of m) h + 0) (sym (push-nil (mode_of m).algebra h)) (omega arith))

push-more : {F R : Type 0} (e : R × F) (d : List (R × F)) (h : Hill F R) → push (e ∷ []) (push d h) ≡ push (e ∷ d) h
push-more e d (hill u m f) = refl

module _ {M : Mode} {b : List ℕ} {k j : ℕ} {A₀ A : Arrays} {c₀ c : Counts} (p : Puts M b k A₀ c₀) (lt : j < k)
    (s : StandsFor M A c (push (rights_in M.read b j) (slopes_of M A₀ c₀)) (weight_of M (slopes_of M A₀ c₀) + weight_down M.algebra M.sizes (rights_in M.read b j))) where
  rights-light : weight_of M (slopes_of M A₀ c₀) + weight_down M.algebra M.sizes (rights_in M.read b j) < 2 ^ 62
  rights-light = omega (arith, rights-first M b j k (omega arith), p.light)

  next-pushed : {vs' fs' cs' hs' : List ℤ} {n' : ℕ} → c.n < 64 → n' ≡ suc c.n
      → Pushed c.n (value_at b j) (floor_at b j) (ceiling_at b j) (held_at b j) A.values A.floors A.ceilings A.held vs' fs' cs' hs'
      → StandsFor M (arrays A.left vs' fs' cs' hs') (counts c.nl n' c.mid) (push (rights_in M.read b (suc j)) (slopes_of M A₀ c₀))
      (weight_of M (slopes_of M A₀ c₀) + weight_down M.algebra M.sizes (rights_in M.read b (suc j)))
  unfolding size_of
  next-pushed room en q =
      let e : Amounts × Fig M = (amounts_at b j, M.read (held_at b j)) in
      restate (after_more s (push (e ∷ [])) (M.sizes.unit + size_of M (held_at b j)) (pushed (able s rights-light) (amounts_at b j) (held_at b j) room (p.ranges j lt) (p.stored j lt) en refl q))
      (weight_of M (slopes_of M A₀ c₀) + weight_down M.algebra M.sizes (rights_in M.read b (suc j))) (push-more e (rights_in M.read b j) (slopes_of M A₀ c₀)) (omega arith)

pub next-stacked : (b : List ℕ) (k j n : ℕ) (A₀ : Arrays) (s s' : Slopes) (v f c h : ℤ) → j < k → n + j < 64
    → v ≡ value_at b j → f ≡ floor_at b j → c ≡ ceiling_at b j → h ≡ held_at b j
    → step.Pushed (n + j) v f c h s s' → Stacked b k j n A₀ (arrays_of s) → Stacked b k (j + 1) n A₀ (arrays_of s')
next-stacked b k j n A₀ s s' v f c h lt room ev ef ec eh q st m nl mid p =
    rw (add-one j, q.left) (next-pushed p lt (st m nl mid p) room (omega arith) (rw (ev, ef, ec, eh) at q.on-top))

-- ---- a load: the left values, the middle, the records

module _ {m : ℕ} {b : List ℕ} {A : Arrays} {c : Counts} (p : Loads m b A c) where
  all-stored : AllStored (mode_of m) b
  all-stored = hill-stored (mode_of m) b (in-mode b p.hill p.mode-is) p.hill

  in-range : (j : ℕ) → j < fall_at b → InRange (amounts_at b j)
  in-range = fine-rights (mode_of m) b (fall_at b) (hill-valid (mode_of m) b (in-mode b p.hill p.mode-is) p.hill).fine

  -- k and f are the slopes' lengths, as the code reads them
  module _ {k f : ℕ} (ek : k ≡ rise_at b) (ef : f ≡ fall_at b) where
    pub load-sinks : Sinks (mode_of m) b k A c
    load-sinks =
        rw ek record { able = p.able; bytes = omega (arith, p.hill.layout.length-fits); stored = all-stored.lefts; room = p.left-room; light = omega (arith, p.light) }

    module _ {A₁ : Arrays} {c₁ : Counts} (s : Sunk (mode_of m) b k A c A₁ c₁) where
      sunk : Sunk (mode_of m) b (rise_at b) A c A₁ c₁
      sunk = rw ek at s

      middle-light : weight_of (mode_of m) (slopes_of (mode_of m) A c) + weight_up (mode_of m).algebra (mode_of m).sizes (lefts_in (mode_of m).read b (rise_at b)) + size_of (mode_of m) (middle_at b) < 2 ^ 62
      unfolding size_of
      middle-light = omega (arith, p.light)

      pub middle-joins : {x : ℤ} → x ≡ middle_at b → Joins (mode_of m) A₁ c₁ x
      middle-joins ex = rw ex (joins sunk all-stored.middle middle-light)

      pub stack-room : c₁.n + f ≤ 64
      stack-room =
          let r : c₁.n ≡ c.n - rise_at b = fall-is sunk ∙ fall-closes (mode_of m).algebra (slopes_of (mode_of m) A c) (lefts_in (mode_of m).read b (rise_at b)) ∙
          rw (lefts-length (mode_of m).read b (rise_at b), fall-slopes (mode_of m) A c) in
          omega (arith, p.right-room)

      pub loaded : {hs₂ : List ℤ} {A' : Arrays} {mid' : ℤ} → Added (mode_of m) A₁.held c₁.n c₁.mid (middle_at b) hs₂ mid'
          → Stacked b f f c₁.n (with_held A₁ hs₂) A'
          → StandsFor (mode_of m) A' (counts c₁.nl (c₁.n + f) mid')
          (merge (mode_of m).algebra (slopes_of (mode_of m) A c) (hill_in (mode_of m).read b)) (weight_of (mode_of m) (slopes_of (mode_of m) A c) + weight_of (mode_of m) (hill_in (mode_of m).read b))
      unfolding size_of
      loaded {hs₂} {A'} {mid'} q st =
          let M = mode_of m in
          let A₂ = with_held A₁ hs₂ in
          let c₂ = counts c₁.nl c₁.n mid' in
          let d = rights_in M.read b (fall_at b) in
          let t = after_more sunk (join M.algebra (M.read (middle_at b))) (size_of M (middle_at b)) (joined (middle-joins refl) q) in
          let below : weight_of M (slopes_of M A₂ c₂) + weight_down M.algebra M.sizes d < 2 ^ 62 =
          subst (λ (g : Hill (Fig M) Amounts). weight_of M g + weight_down M.algebra M.sizes d < 2 ^ 62) (sym t.is) (omega (arith, t.light, p.light)) in
          let ok : Puts M b (fall_at b) A₂ c₂ = record { able = able t middle-light; ranges = in-range; stored = all-stored.helds; light = below } in
          let st' : Stacked b (fall_at b) (fall_at b) c₁.n A₂ A' = rw ef at st in
          rw ef (restate (after_more t (push d) (weight_down M.algebra M.sizes d) (st' m c₁.nl mid' ok))
          (weight_of M (slopes_of M A c) + weight_of M (hill_in M.read b)) refl (omega arith))
