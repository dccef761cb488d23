-- The lines of a plan worked in order, and the figure that they give. Assumes nothing.
use Rattle.std.specs.Prelude.{◌≡◌, ◌==◌, true, false, refl, List, [], ◌∷◌, ◌++◌, ℕ, zero, suc, ◌+◌, ◌-◌, ◌≤◌, ◌<◌, ℤ, pos, length, take, get_or, set, Option, Some, None}
use Rattle.std.specs.Option.{is_some}
use Rattle.std.proofs.lemmas.Bool.Decides.{nat_tests}
use Rattle.std.proofs.Common.{sym, ap₂, ◌∙◌, subst, add-one, arith, length-set, drop_of_length-le, drop-cons, get_or-set_same, get_or-set_other}
use Rattle.std.proofs.Math.Path.{ap}
use Rattle.std.proofs.Math.Logic.{dite}
use Rattle.std.proofs.Math.Decide.{dec_lt}
use Rattle.std.proofs.Math.ListN.{drop}
use Rattle.std.proofs.Math.Seq.{take-length}
use Rattle.std.proofs.lemmas.List.{length-map, length-take-le, get_or-take}
use Rattle.row.specs.Row.{row_pieces}
use Rattle.algebra.specs.Run.{Level, through}
use Rattle.algebra.specs.Sizes.{costs}
use Rattle.figure.specs.Mode.{Mode, mode_of}
use Rattle.figure.specs.Stored.{IsStored, size_of}
use Rattle.hill.specs.Summary.{blank, part, spoilt, whole}
use Rattle.summary.specs.Layout.{SummaryIn}
use Rattle.summary.specs.Judge.{peak_at, opened_at, middle_at, IsHill}
use Rattle.summary.specs.Decode.{decode, hill_in}
use Rattle.summary.proofs.Values.{reading-hill}
use Rattle.join_plan.specs.Plan.{Line, plan_of_row}
use Rattle.plan_work.proofs.GateExact.{Begins, row-begins}
use Rattle.plan_work.specs.Runs.{summary_at, run_levels}
use Rattle.plan_work.specs.Work.{Done, worked, one_middle, last_outcome, work_of}
use Rattle.plan_work.specs.WorkLaws.{work}
use Rattle.plan_work.proofs.WorkLaws.{worked-nil, worked-cons, worked-append}
use Rattle.plan_work.specs.WorkSizes.{load, AllLight, LineLight}
use Rattle.plan_work.proofs.WorkSizes.{line-light}
use Rattle.row_plan.specs.Arrays.{line_in, lines_in}
use Rattle.judge.specs.declared.Numbers.{Numbers}
use Rattle.row_plan.specs.declared.Line.{Line as HeldLine}
use Rattle.row_gate.specs.Notes.{note_at}
use Rattle.row_plan.specs.ScanLaws.{length-lines}
use Rattle.row_gate.specs.RowLaws.{decoded-at}
use Rattle.run_level.specs.declared.Place.{Place}
use Rattle.run_level.specs.Levels.{piece_of, place_in}
use Rattle.run_level.specs.StandsFor.{LineLevels}
use Rattle.run_level.specs.Lines.{line_reads}
use Rattle.run_level.specs.Along.{row_in, Ready, Along, line_at, levels_of}
use Rattle.run_level.specs.AlongLaws.{line-levels-of, line-is}
use Rattle.work.specs.Stores.{Stores, stores_same, stores-is, own, size_is, size-stored}
use Rattle.work.specs.Promised.{most, Runs, OutsStored, done_in, done_of, Gives, Given, WorksLine, AllWorked}
use Rattle.work.specs.RowLaws.{valid, row-light, some-hill, middle-stored, IsWhole, none-no-hill}

-- ---- one line

module _ {row : List ℕ} {count m : ℕ} {ats : List ℕ} {notes : List (Option Numbers)} {lines : List HeldLine} {outs : List ℤ} {line : HeldLine} (v : WorksLine row count m ats notes lines outs line) where
  pub line_gives : Gives row count m ats notes lines outs line
  line_gives =
      let o = v.levels.opens line.high v.levels.some (omega arith) in
      record {
        ready = v.ready;
        order = v.levels.order;
        within = omega (arith, v.levels.within, v.ready.let_through.long);
        level-high = omega (arith, o.high, o.is.end-high);
        outcomes = v.outcomes;
      }

  pub line-near : (line.i < 64) × (line.j < 64)
  line-near = let t = v.ready.let_through in (omega (arith, v.levels.order, v.levels.within, t.long, t.few), omega (arith, v.levels.within, t.long, t.few))

  abbrev M : Mode
  M = mode_of m

  abbrev o : Place
  o = place_in ats notes line.i

  abbrev c : Place
  c = place_in ats notes line.j

  module _ (x y : ℤ) (ey : y ≡ x) (g : Given row m lines outs line x) where
    pub line-runs : (p q : Place) → p ≡ o → q ≡ c → Runs row m p q line.low line.high y
    line-runs p q ep eq =
        subst (λ (a : Place). Runs row m a q line.low line.high y) (sym ep)
        (subst (λ (b : Place). Runs row m o b line.low line.high y) (sym eq)
        (subst (Runs row m o c line.low line.high) (sym ey)
        (record {
          some = v.levels.some;
          reads = line_reads v.ready.let_through v.ready.begun (line_in line) v.levels;
          opener-mode = v.levels.opener-mode;
          closer-mode = v.levels.closer-mode;
          stored = g.stored;
          room = light;
        })))
      where
        light : size_of M x + costs M.sizes (levels_of row m o c line.low (suc line.high - line.low)) ≤ most
        light =
            subst (λ (ls : List (Level M.algebra)). size_of M x + costs M.sizes ls ≤ most) v.run_is
            (omega (arith, size-stored M x _ g, v.light.run-light, row-light v.ready.let_through))

    -- Its outcome.
    pub line-stores : (p q : Place) (r s : ℤ) → p ≡ o → q ≡ c → s ≡ r → Stores M r (through M.algebra (levels_of row m p q line.low (suc line.high - line.low)) (M.read y)) →
        Stores M s (work M.algebra (row_in m row) (line_in line) (done_of M lines outs)).out
    line-stores p q r s ep eq es t =
        let f : through M.algebra (levels_of row m p q line.low (suc line.high - line.low)) (M.read y) ≡ through M.algebra (run_levels M.algebra (row_in m row) (line_in line)) (M.read x) =
        (λ i. through M.algebra (levels_of row m (ep i) (eq i) line.low (suc line.high - line.low)) (M.read (ey i))) ∙ ap (λ (ls : List (Level M.algebra)). through M.algebra ls (M.read x)) (sym v.run_is) in
        stores_same M r s _ es (subst (Stores M r) (f ∙ ap (through M.algebra (run_levels M.algebra (row_in m row) (line_in line))) g.reads) t)

-- ---- all lines

-- Line k, between those before and those behind it.
split-lines : (lines : List HeldLine) (k : ℕ) → k < length lines → lines_in (take k lines) ++ (line_at lines k ∷ lines_in (drop (suc k) lines)) ≡ lines_in lines
split-lines [] k h = absurd (omega arith)
split-lines (l ∷ lines) zero h = refl
split-lines (l ∷ lines) (suc k) h = ap (λ t. line_in l ∷ t) (split-lines lines k (omega arith))

lines-next : (lines : List HeldLine) (k : ℕ) → k < length lines → lines_in (take (suc k) lines) ≡ lines_in (take k lines) ++ (line_at lines k ∷ [])
lines-next [] k h = absurd (omega arith)
lines-next (l ∷ lines) zero h = refl
lines-next (l ∷ lines) (suc k) h = ap (λ t. line_in l ∷ t) (lines-next lines k (omega arith))

each_light : (M : Mode) (B : ℕ) (lines : List HeldLine) (outs : List ℤ) (n : ℕ) → AllLight M.algebra M.sizes B (done_in M lines outs n) → (k : ℕ) → k < n → size_of M (get_or outs k (pos 0)) ≤ B
each_light M B lines outs zero a k h = absurd (omega arith)
each_light M B lines outs (suc n) a k h = dite (dec_lt k n)
    (λ l. each_light M B lines outs n a.1 k l)
    (λ l. let e : k ≡ n = omega arith in subst (λ (i : ℕ). size_of M (get_or outs i (pos 0)) ≤ B) (sym e) (omega (arith, a.0, size_is M (get_or outs n (pos 0)))))

-- An outcome stored behind the first n leaves them.
done-set : (M : Mode) (lines : List HeldLine) (outs : List ℤ) (k : ℕ) (r : ℤ) (n : ℕ) → n ≤ k → done_in M lines (set outs k r) n ≡ done_in M lines outs n
done-set M lines outs k r zero h = refl
done-set M lines outs k r (suc n) h =
    ap₂ (λ (z : ℤ) (ds : List (Done M.algebra.Fig)). record { line = line_at lines n; out = M.read z } ∷ ds) (get_or-set_other outs k n r (pos 0) (omega arith)) (done-set M lines outs k r n (omega arith))

-- The first n lines are in the first k.
done-take : (M : Mode) (lines : List HeldLine) (outs : List ℤ) (k n : ℕ) → n ≤ k → done_in M (take k lines) outs n ≡ done_in M lines outs n
done-take M lines outs k zero h = refl
done-take M lines outs k (suc n) h =
    ap₂ (λ (l : Line) (ds : List (Done M.algebra.Fig)). record { line = l; out = M.read (get_or outs n (pos 0)) } ∷ ds) (ap line_in (get_or-take k lines n _ (omega arith))) (done-take M lines outs k n (omega arith))

-- The first k lines are worked.
pub record Working (row : List ℕ) (m : ℕ) (lines : List HeldLine) (outs : List ℤ) (k : ℕ) : Type 0 where
  pub near : k ≤ length lines
  pub sized : length outs ≡ 128
  pub done : AllWorked row m lines outs k

pub working-start : (row : List ℕ) (m : ℕ) (lines : List HeldLine) (outs : List ℤ) → length outs ≡ 128 → Working row m lines outs 0
working-start row m lines outs l = record { near = omega arith; sized = l; done = record { outcomes = sym (worked-nil (mode_of m).algebra (row_in m row) []); each = λ k h. absurd (omega arith) } }

module _ {row : List ℕ} {count m : ℕ} {ats : List ℕ} {notes : List (Option Numbers)} {lines : List HeldLine} (a : Along row count m ats notes lines) (outs : List ℤ) (k : ℕ) (w : Working row m lines outs k) (h : k < length lines) where
  abbrev N : Mode
  N = mode_of m

  abbrev R : List (SummaryIn m)
  R = row_in m row

  abbrev these : List Line
  these = lines_in (take k lines)

  abbrev next : Line
  next = line_at lines k

  in-plan : these ++ (next ∷ lines_in (drop (suc k) lines)) ≡ plan_of_row R
  in-plan = split-lines lines k h ∙ a.planned

  these-length : length (take k lines) ≡ k
  these-length = length-take-le k lines (omega arith)

  -- The lines before it, with their outcomes.
  so_far : done_of N (take k lines) outs ≡ done_in N lines outs k
  so_far = ap (done_in N (take k lines) outs) these-length ∙ done-take N lines outs k k (omega arith)

  is-light : LineLight N.algebra N.sizes R next (done_in N lines outs k)
  is-light =
      subst (LineLight N.algebra N.sizes R next) (sym w.done.outcomes)
      (line-light N.algebra N.sizes R (valid a.ready.let_through) N.laws N.commutative a.ready.let_through.faultless these (lines_in (drop (suc k) lines)) next in-plan (omega (arith, length-lines lines k (omega arith), a.few)))

  outs-stored : OutsStored N outs k
  outs-stored = record {
    few = omega (arith, a.few);
    each = w.done.each;
    light = λ i l. omega (arith, each_light N (load N.algebra N.sizes R) lines outs k is-light.outs i l, row-light a.ready.let_through);
  }

  module _ (line : HeldLine) (q : line_in line ≡ next) where
    pub line-works : WorksLine row count m ats notes (take k lines) outs line
    line-works = record {
      ready = a.ready;
      outcomes = subst (OutsStored N outs) (sym these-length) outs-stored;
      levels = subst (LineLevels m (row_pieces row)) (sym q) (line-levels-of a k h);
      run_is = subst (λ (l : Line). run_levels N.algebra R l ≡ levels_of row m (place_in ats notes l.i) (place_in ats notes l.j) l.lowest (suc l.highest - l.lowest)) (sym q) (line-is a k h);
      light = subst (λ (l : Line). LineLight N.algebra N.sizes R l (done_of N (take k lines) outs)) (sym q) (subst (LineLight N.algebra N.sizes R next) (sym so_far) is-light);
    }

    worked-next : worked N.algebra R (lines_in (take (suc k) lines)) [] ≡ work N.algebra R next (done_in N lines outs k) ∷ done_in N lines outs k
    worked-next =
        ap (λ (ls : List Line). worked N.algebra R ls []) (lines-next lines k h) ∙ worked-append N.algebra R these (next ∷ []) [] ∙ ap (worked N.algebra R (next ∷ [])) (sym w.done.outcomes) ∙
        worked-cons N.algebra R next [] (done_in N lines outs k) ∙ worked-nil N.algebra R _

    pub working-next : (r s : ℤ) → s ≡ r → Stores N r (work N.algebra R (line_in line) (done_of N (take k lines) outs)).out → Working row m lines (set outs k s) (k + 1)
    working-next r s es t = record { near = omega arith; sized = length-set outs k s ∙ w.sized; done = subst (AllWorked row m lines (set outs k s)) (sym (add-one k)) (record { outcomes = outcomes; each = each }) }
      where
        here : Stores N s (work N.algebra R next (done_in N lines outs k)).out
        here = stores_same N r s _ es (subst (λ (ds : List (Done N.algebra.Fig)). Stores N r (work N.algebra R next ds).out) so_far (subst (λ (l : Line). Stores N r (work N.algebra R l (done_of N (take k lines) outs)).out) q t))

        there : get_or (set outs k s) k (pos 0) ≡ s
        there = get_or-set_same outs k s (pos 0) (omega (arith, w.sized, a.few))

        outcomes : done_in N lines (set outs k s) (suc k) ≡ worked N.algebra R (lines_in (take (suc k) lines)) []
        outcomes =
            ap₂ (λ (f : N.algebra.Fig) (ds : List (Done N.algebra.Fig)). record { line = next; out = f } ∷ ds) (ap N.read there ∙ here.reads) (done-set N lines outs k s k (omega arith)) ∙
            sym worked-next

        each : (i : ℕ) → i < suc k → IsStored N (get_or (set outs k s) i (pos 0))
        each i l = dite (dec_lt i k)
            (λ b. subst (IsStored N) (sym (get_or-set_other outs k i s (pos 0) (omega arith))) (w.done.each i b))
            (λ b. let f : i ≡ k = omega arith in subst (λ (j : ℕ). IsStored N (get_or (set outs k s) j (pos 0))) (sym f) (subst (IsStored N) (sym there) here.stored))

pub working-end : (row : List ℕ) (m : ℕ) (lines : List HeldLine) (outs : List ℤ) (k : ℕ) → Working row m lines outs k → length lines ≤ k → AllWorked row m lines outs (length lines)
working-end row m lines outs k w h = let e : k ≡ length lines = omega (arith, w.near) in subst (AllWorked row m lines outs) e w.done

-- ---- the figure

pub no-lines : (lines : List HeldLine) → true ≡ (length lines == 0) → lines ≡ []
no-lines [] e = refl
no-lines (l ∷ lines) e = absurd (grind (arith, nat_tests))

pub some-lines : (lines : List HeldLine) → false ≡ (length lines == 0) → 0 < length lines
some-lines [] e = cc
some-lines (l ∷ lines) e = omega arith

module _ {row : List ℕ} {count m : ℕ} {ats : List ℕ} {notes : List (Option Numbers)} {lines : List HeldLine} (a : Along row count m ats notes lines) where
  abbrev P : Mode
  P = mode_of m

  -- With no line, the middle value of the one hill.
  pub figure-none : (r s : ℤ) → s ≡ r → lines ≡ [] → Stores P r (one_middle P.algebra (row_in m row)) → s ≡ P.store (work_of P.algebra (row_in m row)).figure
  figure-none r s es z t =
      let p : plan_of_row (row_in m row) ≡ [] = sym a.planned ∙ ap lines_in z in
      es ∙ stores-is P r _ t ∙
      ap (λ (ds : List (Done P.algebra.Fig)). P.store (last_outcome P.algebra ds (one_middle P.algebra (row_in m row)))) (sym (ap (λ (es : List Line). worked P.algebra (row_in m row) es []) p ∙ worked-nil P.algebra (row_in m row) []))

  -- The last outcome.
  pub figure-last : (outs : List ℤ) (z : ℤ) → z ≡ get_or outs (length lines - 1) (pos 0) → 0 < length lines → AllWorked row m lines outs (length lines) → z ≡ P.store (work_of P.algebra (row_in m row)).figure
  figure-last outs z ez h w =
      let n : ℕ = length lines - 1 in
      let q : length lines ≡ suc n = omega arith in
      let d : worked P.algebra (row_in m row) (plan_of_row (row_in m row)) [] ≡ done_in P lines outs (suc n) =
      ap (λ (es : List Line). worked P.algebra (row_in m row) es []) (sym (ap lines_in (take-length lines) ∙ a.planned)) ∙ sym w.outcomes ∙ ap (done_in P lines outs) q in
      ez ∙ stores-is P (get_or outs n (pos 0)) _ (own P _ _ refl (w.each n (omega arith))) ∙
      ap (λ (ds : List (Done P.algebra.Fig)). P.store (last_outcome P.algebra ds (one_middle P.algebra (row_in m row)))) (sym d)

-- ---- the one hill

some-is : (o : Option Numbers) → true ≡ is_some o → (n : Numbers) × (o ≡ Some n)
some-is None e = cc
some-is (Some n) e = (n, refl)

none-is : (o : Option Numbers) → false ≡ is_some o → o ≡ None
none-is None e = refl
none-is (Some n) e = cc

-- The first k pieces are blank.
pub record Seeking (row : List ℕ) (count m k : ℕ) : Type 0 where
  pub near : k ≤ count
  pub begins : Begins (drop k (row_in m row))
  pub same : one_middle (mode_of m).algebra (drop k (row_in m row)) ≡ one_middle (mode_of m).algebra (row_in m row)

module _ {row : List ℕ} {count m : ℕ} {ats : List ℕ} {notes : List (Option Numbers)} (t : Ready row count m ats notes) where
  abbrev S : List (SummaryIn m)
  S = row_in m row

  pub seek-start : Seeking row count m 0
  seek-start = record { near = omega arith; begins = row-begins S t.let_through.faultless; same = refl }

  pub seek-end : (k : ℕ) {A : Type 0} → Seeking row count m k → count ≤ k → A
  seek-end k w h = absurd (subst Begins (drop_of_length-le S {i = k} (omega (arith, length-map (row_pieces row) (decode m), t.let_through.long))) w.begins)

  module _ (k : ℕ) (w : Seeking row count m k) (h : k < count) where
    from-here : drop k S ≡ summary_at (mode_of m).algebra S k ∷ drop (suc k) S
    from-here = drop-cons S k blank (omega (arith, length-map (row_pieces row) (decode m), t.let_through.long))

    pub is-hill : true ≡ is_some (note_at notes k) → IsHill (piece_of row k)
    is-hill l = let n = some-is (note_at notes k) l in some-hill t k h n.0 n.1 (λ f s e o q. subst Begins (from-here ∙ ap (λ (x : SummaryIn m). x ∷ drop (suc k) S) q) w.begins)

    -- A hill.
    pub seek-hill : true ≡ is_some (note_at notes k) → (p : Place) (z y : ℤ) → p ≡ place_in ats notes k → y ≡ z → z ≡ middle_at (piece_of row p.piece) → Stores (mode_of m) y (one_middle (mode_of m).algebra S)
    unfolding decode
    seek-hill l p z y ep ey e =
        let ez : z ≡ middle_at (piece_of row k) = e ∙ ap (λ (x : Place). middle_at (piece_of row x.piece)) ep in
        let v : IsHill (piece_of row k) = is-hill l in
        let s : drop k S ≡ part (whole (peak_at (piece_of row k)) (opened_at (piece_of row k)) (hill_in (mode_of m).read (piece_of row k))) ∷ drop (suc k) S =
        from-here ∙ ap (λ (x : SummaryIn m). x ∷ drop (suc k) S) (decoded-at m (row_pieces row) k (omega (arith, t.let_through.long)) ∙ reading-hill (mode_of m).read (piece_of row k) v.layout.kind_fits) in
        stores_same (mode_of m) z y _ ey
        (subst (Stores (mode_of m) z) (sym (ap (one_middle (mode_of m).algebra) s) ∙ w.same) (own (mode_of m) (middle_at (piece_of row k)) z ez (middle-stored t k h v)))

    -- No hill: a blank.
    pub seek-next : false ≡ is_some (note_at notes k) → Seeking row count m (k + 1)
    seek-next l = go (summary_at (mode_of m).algebra S k) from-here (none-no-hill t k h (none-is (note_at notes k) l))
      where
        go : (s : SummaryIn m) → drop k S ≡ s ∷ drop (suc k) S → (IsWhole s → ⊥) → Seeking row count m (k + 1)
        go blank e n = subst (Seeking row count m) (sym (add-one k)) (record { near = omega arith; begins = subst Begins e w.begins; same = sym (ap (one_middle (mode_of m).algebra) e) ∙ w.same })
        go (part (spoilt f s e o)) q n = absurd (subst Begins q w.begins)
        go (part (whole p o g)) q n = absurd (n tt)
