-- The x of a line: the middle values between two hills, the outcomes of earlier lines, and both. Assumes nothing.
use Rattle.std.specs.Prelude.{◌≡◌, refl, Bool, true, false, ◌&&◌, cond, List, ◌≢◌, ℕ, zero, suc, ◌+◌, ◌-◌, ◌*◌, ◌^◌, ◌≤◌, ◌<◌, leb, eqb, ℤ, pos, length, get_or, Option}
use Rattle.std.proofs.Common.{sym, ap, ap₂, ◌∙◌, add-one, arith, eq-eqb, ne_eqb, to_z}
use Rattle.std.proofs.Math.Path.{subst}
use Rattle.std.proofs.lemmas.Bool.{eqb-false}
use Rattle.std.proofs.lemmas.List.{length-map}
use Rattle.std.specs.Int.{w64}
use Rattle.number.specs.Bytes.{le_at, i64_at}
use Rattle.row.specs.Row.{row_pieces}
use Rattle.figure.specs.Mode.{Mode, mode_of}
use Rattle.figure.specs.Stored.{size_of, none, combined, Combines}
use Rattle.summary.specs.Layout.{SummaryIn}
use Rattle.summary.specs.Judge.{rise_at, middle_at}
use Rattle.summary.specs.Decode.{decode}
use Rattle.plan_work.specs.Work.{middles_at, outcomes_at, strictly_between, given}
use Rattle.plan_work.proofs.WorkLaws.{outs-nil, outs-cons, middles-start, middles-step}
use Rattle.plan_work.specs.WorkSizes.{AllLight}
use Rattle.plan_work.proofs.WorkSizes.{outs-many, middles-light}
use Rattle.judge.specs.declared.Numbers.{Numbers}
use Rattle.row_plan.specs.declared.Line.{Line as HeldLine}
use Rattle.row_plan.specs.Arrays.{line_in}
use Rattle.run_level.specs.declared.Place.{Place}
use Rattle.row_gate.specs.Notes.{note_at}
use Rattle.run_level.specs.Levels.{piece_of, begin_of, peak_of, place_in}
use Rattle.run_level.specs.Laws.{piece_inside, piece-field}
use Rattle.run_level.specs.Along.{row_in, line_at}
use Rattle.work.specs.Stores.{Stores, own, stores_same, size_is, size-stored, stores-none, can-combine, stores-combined}
use Rattle.work.specs.Promised.{outcome_most, IsPlaceOfHill, middle_if, with_middle, AddsMiddle, Middles, AddsOutcome, with_outcome, OutsStored, done_in, done_of, Gives, Given}
use Rattle.work.specs.RowLaws.{valid, row-light, noted-hill, noted-place, middle-stored, middle-small, middle-noted}

-- ---- a middle value

module _ (row : List ℕ) (p : Place) (v : IsPlaceOfHill row p) where
  abbrev b : List ℕ
  b = piece_of row p.piece

  abbrev at : ℕ
  at = p.at + 16 + 8 * (p.start - p.peak)

  in-piece : 16 + 8 * rise_at b + 8 ≤ length b
  in-piece = omega (arith, v.is.layout.length-fits)

  at-is : at ≡ begin_of row p.piece + (16 + 8 * rise_at b)
  at-is = omega (arith, v.placed.begins, v.placed.start_is, v.placed.peak-is)

  pub middle-fits : at + 8 ≤ length row
  middle-fits = omega (arith, at-is, in-piece, piece_inside row p.piece v.placed.within)

  pub middle-read : i64_at row at ≡ middle_at b
  middle-read = ap (to_z w64) (ap (le_at 8 row) at-is ∙ piece-field row p.piece v.placed.within 8 (16 + 8 * rise_at b) in-piece)

-- ---- one that joins, or not

module _ (row : List ℕ) (m : ℕ) (p : Place) (level : ℕ) (acc : ℤ) (v : AddsMiddle row m p level acc) where
  abbrev M : Mode
  M = mode_of m

  pub adds_none : (z : ℤ) → z ≡ acc → p.peak ≢ level → Stores M z (with_middle row m p level acc)
  adds_none z e n =
      let f : middle_if row m p level ≡ M.algebra.ι = rw (ne_eqb p.peak level n) in
      subst (λ (g : M.algebra.Fig). Stores M z (M.algebra.◌⊗◌ (M.read acc) g)) (sym f)
      (subst (Stores M z) (sym (M.laws.unit-r (M.read acc))) (own M acc z e v.stored))

  module _ (q : p.peak ≡ level) (z x : ℤ) (ez : z ≡ acc) (ex : x ≡ middle_at (piece_of row p.piece)) where
    room : M.sizes.size (M.read acc) + M.sizes.size (M.read (middle_at (piece_of row p.piece))) < 2 ^ 63
    room = omega (arith, v.room, v.light q, size_is M acc, size_is M (middle_at (piece_of row p.piece)))

    pub adds-can : Combines M z x
    adds-can = can-combine M z x _ _ (own M acc z ez v.stored) (own M _ x ex (v.middle-stored q)) room

    pub adds-stores : (r s : ℤ) → s ≡ r → r ≡ combined M z x → Stores M s (with_middle row m p level acc)
    adds-stores r s es er =
        let f : middle_if row m p level ≡ M.read (middle_at (piece_of row p.piece)) = rw (eq-eqb p.peak level q) in
        subst (λ (g : M.algebra.Fig). Stores M s (M.algebra.◌⊗◌ (M.read acc) g)) (sym f)
        (stores_same M r s _ es (stores-combined M z x _ _ (own M acc z ez v.stored) (own M _ x ex (v.middle-stored q)) room r er))

-- ---- those between two hills

-- The hills after i and before k have been passed.
pub record Between (row : List ℕ) (m i j level : ℕ) (acc : ℤ) (k : ℕ) : Type 0 where
  pub after : i < k
  pub near : k ≤ j
  pub stores : Stores (mode_of m) acc (middles_at (mode_of m).algebra level (strictly_between (mode_of m).algebra (row_in m row) i k))

module _ {row : List ℕ} {count m : ℕ} {ats : List ℕ} {notes : List (Option Numbers)} {i j level : ℕ} (v : Middles row count m ats notes i j level) where
  abbrev N : Mode
  N = mode_of m

  abbrev R : List (SummaryIn m)
  R = row_in m row

  pub between_start : (z r : ℤ) → z ≡ r → r ≡ none N → Between row m i j level z (i + 1)
  between_start z r e q = record {
    after = omega arith;
    near = omega (arith, v.order);
    stores = subst (Stores N z) (sym (middles-start N.algebra R i (i + 1) level (omega arith))) (stores_same N r z _ e (stores-none N r q));
  }

  module _ (acc : ℤ) (k : ℕ) (w : Between row m i j level acc k) (h : k < j) where
    here : k < count
    here = omega (arith, v.within)

    light : size_of N acc ≤ outcome_most
    light = omega (arith, size-stored N acc _ w.stores, middles-light N.algebra N.sizes R (valid v.ready.let_through) i k level, row-light v.ready.let_through)

    pub adds-next : (p : Place) (z : ℤ) → p ≡ place_in ats notes k → z ≡ acc → AddsMiddle row m p level z
    adds-next p z ep ez =
        subst (λ (x : Place). AddsMiddle row m x level z) (sym ep)
        (subst (AddsMiddle row m (place_in ats notes k) level) (sym ez)
        (record {
          hill = λ e. noted-place v.ready k here (omega (arith, v.level-high));
          middle-stored = λ e. middle-stored v.ready k here (noted-hill v.ready k here (omega (arith, v.level-high)));
          light = λ e. middle-small v.ready k here (noted-hill v.ready k here (omega (arith, v.level-high)));
          stored = w.stores.stored;
          room = omega (arith, light);
        }))

    pub between_next : (p : Place) (z r s : ℤ) → p ≡ place_in ats notes k → z ≡ acc → s ≡ r → Stores N r (with_middle row m p level z) → Between row m i j level s (k + 1)
    between_next p z r s ep ez es t =
        let f = middles_at N.algebra level (strictly_between N.algebra R i k) in
        let e : with_middle row m p level z ≡ middles_at N.algebra level (strictly_between N.algebra R i (k + 1)) =
        (λ i'. with_middle row m (ep i') level (ez i')) ∙ ap₂ N.algebra.◌⊗◌ w.stores.reads (sym (middle-noted v.ready k here level v.level-high)) ∙
        sym (middles-step N.algebra N.laws R i k level w.after (omega (arith, length-map (row_pieces row) (decode m), v.ready.let_through.long))) ∙
        ap (λ (n : ℕ). middles_at N.algebra level (strictly_between N.algebra R i n)) (sym (add-one k)) in
        record { after = omega (arith, w.after); near = omega arith; stores = stores_same N r s _ es (subst (Stores N r) e t) }

    -- a piece with another peak adds nothing
    pub between_skip : eqb (peak_of (note_at notes k)) level ≡ false → Between row m i j level acc (k + 1)
    between_skip e =
        let p : Place = place_in ats notes k in
        between_next p acc acc acc refl refl refl (adds_none row m p level acc (adds-next p acc refl refl) acc refl (eqb-false p.peak level e))

  pub between-end : (acc : ℤ) (k : ℕ) → Between row m i j level acc k → j ≤ k → Stores N acc (middles_at N.algebra level (strictly_between N.algebra R i j))
  between-end acc k w h = let e : k ≡ j = omega (arith, w.near) in subst (λ (n : ℕ). Stores N acc (middles_at N.algebra level (strictly_between N.algebra R i n))) e w.stores

-- ---- an outcome that joins, or not

module _ (m i j level : ℕ) (line : HeldLine) (out acc : ℤ) (v : AddsOutcome m out acc) where
  abbrev O : Mode
  O = mode_of m

  abbrev test : Bool
  test = leb i line.i && leb line.j j && eqb line.low level

  pub joins-not : (z : ℤ) → z ≡ acc → test ≡ false → Stores O z (with_outcome m i j level line out acc)
  joins-not z e n = rw (n, with_outcome) (subst (Stores O z) (sym (O.laws.unit-l (O.read acc))) (own O acc z e v.acc-stored))

  module _ (x z : ℤ) (ex : x ≡ out) (ez : z ≡ acc) where
    sum_room : O.sizes.size (O.read out) + O.sizes.size (O.read acc) < 2 ^ 63
    sum_room = omega (arith, v.room, size_is O out, size_is O acc)

    pub joins-can : Combines O x z
    joins-can = can-combine O x z _ _ (own O out x ex v.out-stored) (own O acc z ez v.acc-stored) sum_room

    pub joins-stores : (r s : ℤ) → s ≡ r → r ≡ combined O x z → test ≡ true → Stores O s (with_outcome m i j level line out acc)
    joins-stores r s es er q = rw (q, with_outcome) (stores_same O r s _ es (stores-combined O x z _ _ (own O out x ex v.out-stored) (own O acc z ez v.acc-stored) sum_room r er))

-- ---- those of the first lines

-- The first k outcomes have been passed.
pub record Collected (m : ℕ) (lines : List HeldLine) (outs : List ℤ) (i j level : ℕ) (acc : ℤ) (k : ℕ) : Type 0 where
  pub near : k ≤ length lines
  pub stores : Stores (mode_of m) acc (outcomes_at (mode_of m).algebra i j level (done_in (mode_of m) lines outs k))

module _ (m : ℕ) (lines : List HeldLine) (outs : List ℤ) (i j level : ℕ) (v : OutsStored (mode_of m) outs (length lines)) where
  abbrev P : Mode
  P = mode_of m

  all-light : (k : ℕ) → k ≤ length lines → AllLight P.algebra P.sizes outcome_most (done_in P lines outs k)
  all-light zero h = tt
  all-light (suc k) h = (omega (arith, v.light k (omega arith), size_is P (get_or outs k (pos 0))), all-light k (omega arith))

  done-length : (k : ℕ) → length (done_in P lines outs k) ≡ k
  done-length zero = refl
  done-length (suc k) = ap suc (done-length k)

  -- What they weigh.
  pub outcomes-light : (k : ℕ) → k ≤ length lines → P.sizes.size (outcomes_at P.algebra i j level (done_in P lines outs k)) ≤ 128 * outcome_most
  outcomes-light k h = outs-many P.algebra P.sizes outcome_most i j level _ (all-light k h) (omega (arith, done-length k, v.few))

  pub collect-start : (z r : ℤ) → z ≡ r → r ≡ none P → Collected m lines outs i j level z 0
  collect-start z r e q = record { near = omega arith; stores = subst (Stores P z) (sym (outs-nil P.algebra i j level)) (stores_same P r z _ e (stores-none P r q)) }

  module _ (acc : ℤ) (k : ℕ) (w : Collected m lines outs i j level acc k) (h : k < length lines) where
    pub joins-next : (x z : ℤ) → x ≡ get_or outs k (pos 0) → z ≡ acc → AddsOutcome m x z
    joins-next x z ex ez =
        subst (λ (y : ℤ). AddsOutcome m y z) (sym ex)
        (subst (AddsOutcome m (get_or outs k (pos 0))) (sym ez)
        (record {
          out-stored = v.each k h;
          acc-stored = w.stores.stored;
          room = omega (arith, v.light k h, size-stored P acc _ w.stores, outcomes-light k (omega arith));
        }))

    pub collect-next : (line : HeldLine) (x z r s : ℤ) → line_in line ≡ line_at lines k → x ≡ get_or outs k (pos 0) → z ≡ acc → s ≡ r → Stores P r (with_outcome m i j level line x z) → Collected m lines outs i j level s (k + 1)
    collect-next line x z r s el ex ez es t =
        let e : with_outcome m i j level line x z ≡ outcomes_at P.algebra i j level (done_in P lines outs (k + 1)) =
        (λ i'. P.algebra.◌⊗◌ (cond (leb i (el i').i && leb (el i').j j && eqb (el i').lowest level) (P.read (ex i')) P.algebra.ι) (P.read (ez i'))) ∙
        ap (P.algebra.◌⊗◌ (cond (leb i (line_at lines k).i && leb (line_at lines k).j j && eqb (line_at lines k).lowest level) (P.read (get_or outs k (pos 0))) P.algebra.ι)) w.stores.reads ∙
        sym (outs-cons P.algebra i j level _ (done_in P lines outs k)) ∙
        ap (λ (c : ℕ). outcomes_at P.algebra i j level (done_in P lines outs c)) (sym (add-one k)) in
        record { near = omega arith; stores = stores_same P r s _ es (subst (Stores P r) e t) }

  pub collect-end : (acc : ℤ) (k : ℕ) → Collected m lines outs i j level acc k → length lines ≤ k → Stores P acc (outcomes_at P.algebra i j level (done_of P lines outs))
  collect-end acc k w h = let e : k ≡ length lines = omega (arith, w.near) in subst (λ (c : ℕ). Stores P acc (outcomes_at P.algebra i j level (done_in P lines outs c))) e w.stores

-- ---- both

module _ {row : List ℕ} {count m : ℕ} {ats : List ℕ} {notes : List (Option Numbers)} {lines : List HeldLine} {outs : List ℤ} {line : HeldLine} (v : Gives row count m ats notes lines outs line) where
  abbrev Q : Mode
  Q = mode_of m

  abbrev middles_of : Q.algebra.Fig
  middles_of = middles_at Q.algebra (line.high + 1) (strictly_between Q.algebra (row_in m row) line.i line.j)

  abbrev outcomes_of : Q.algebra.Fig
  outcomes_of = outcomes_at Q.algebra line.i line.j (line.high + 1) (done_of Q lines outs)

  pub gives-middles : Middles row count m ats notes line.i line.j (line.high + 1)
  gives-middles = record { ready = v.ready; order = v.order; within = v.within; level-high = omega (arith, v.level-high) }

  module _ (x y a b : ℤ) (ex : x ≡ a) (ey : y ≡ b) (s : Stores Q a middles_of) (t : Stores Q b outcomes_of) where
    both-room : Q.sizes.size middles_of + Q.sizes.size outcomes_of < 2 ^ 63
    both-room =
        omega (
          arith,
          outcomes-light m lines outs line.i line.j (line.high + 1) v.outcomes (length lines) (omega arith),
          middles-light Q.algebra Q.sizes (row_in m row) (valid v.ready.let_through) line.i line.j (line.high + 1),
          row-light v.ready.let_through,
        )

    pub gives-can : Combines Q x y
    gives-can = can-combine Q x y _ _ (stores_same Q a x _ ex s) (stores_same Q b y _ ey t) both-room

    pub gives-stores : (r q : ℤ) → q ≡ r → r ≡ combined Q x y → Given row m lines outs line q
    unfolding given
    gives-stores r q eq er =
        subst (λ (l : ℕ). Stores Q q (Q.algebra.◌⊗◌ (middles_at Q.algebra l (strictly_between Q.algebra (row_in m row) line.i line.j)) (outcomes_at Q.algebra line.i line.j l (done_of Q lines outs)))) (add-one line.high)
        (stores_same Q r q _ eq (stores-combined Q x y _ _ (stores_same Q a x _ ex s) (stores_same Q b y _ ey t) both-room r er))
