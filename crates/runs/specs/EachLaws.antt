-- The runs of a plan's lines, one more at each turn. Assumes nothing.
use Rattle.std.specs.Prelude.{◌≡◌, ℕ, ◌+◌, ◌*◌, ◌≤◌, ◌<◌, length, take, get_or, Option}
use Rattle.std.proofs.Math.Path.{refl, subst}
use Rattle.std.proofs.Common.{sym, ap, ap₂, ◌∙◌, zero-add, arith, length-append}
use mathlib.Core.List.{List, [], ◌∷◌, ◌++◌, append_assoc, append-nil}
use Rattle.std.proofs.lemmas.List.{length-map, map-append, take_more, take_all}
use Rattle.std.proofs.lemmas.List.Edits.{sets}
use Rattle.number.specs.Laws.{sets-append}
use Rattle.algebra.specs.Run.{Level}
use Rattle.algebra.specs.Sizes.{costs}
use Rattle.figure.specs.Mode.{mode_of}
use Rattle.modes.specs.declared.Run.{Run}
use Rattle.summary.specs.Layout.{SummaryIn}
use Rattle.join_plan.specs.Plan.{Line}
use Rattle.plan_work.specs.Runs.{run_of, run_levels, runs_along}
use Rattle.outcome.specs.Outcomes.{run_length, run_bytes, each_run}
use Rattle.outcome.proofs.RunLaws.{length-each}
use Rattle.judge.specs.declared.Numbers.{Numbers}
use Rattle.row_plan.specs.declared.Line.{Line as HeldLine}
use Rattle.row_plan.specs.Arrays.{line_in, lines_in}
use Rattle.run_level.specs.declared.Place.{Place}
use Rattle.run_level.specs.Levels.{place_in}
use Rattle.run_level.specs.Along.{row_in, Along, line_at}
use Rattle.run_level.specs.AlongLaws.{line-levels-of, line-reads-at, line-is, line-costs}
use Rattle.runs.specs.Runs.{most, LineOf, LineReads, line_levels, RunIs, LineRun, lines_runs}
use Rattle.runs.specs.BytesLaws.{each_append, each-one}

-- ---- one line

module _ {row : List ℕ} {count m : ℕ} {ats : List ℕ} {notes : List (Option Numbers)} {lines : List HeldLine} (a : Along row count m ats notes lines) (k : ℕ) (h : k < length lines) where
  abbrev here : Line
  here = line_at lines k

  near : (here.i < 64) × (here.j < 64)
  near =
      let l = line-levels-of a k h in
      let t = a.ready.let_through in
      (omega (arith, l.order, l.within, t.long, t.few), omega (arith, l.within, t.long, t.few))

  module _ (o c : Place) (p : o ≡ place_in ats notes here.i) (q : c ≡ place_in ats notes here.j) where
    asks : LineReads row m o c here.lowest here.highest
    unfolding most
    asks =
        let l = line-levels-of a k h in
        rw (p, q) record {
          some = l.some;
          reads = line-reads-at a k h;
          opener-mode = l.opener-mode;
          closer-mode = l.closer-mode;
          light = subst (λ (ls : List (Level (mode_of m).algebra)). costs (mode_of m).sizes ls ≤ 100_000_000_000_000) (line-is a k h) (line-costs a k h);
        }

    answers : (r : Run) → RunIs m (line_levels row m o c here.lowest here.highest) r → LineRun row m here r
    answers r x = subst (λ (ls : List (Level (mode_of m).algebra)). RunIs m ls r) (sym (line-is a k h)) (rw (p, q) at x)

module _ {row : List ℕ} {m : ℕ} {ats : List ℕ} {notes : List (Option Numbers)} {line : HeldLine} (v : LineOf row m ats notes line) where
  pub line-near : (line.i < 64) × (line.j < 64)
  line-near = subst (λ (e : Line). (e.i < 64) × (e.j < 64)) (sym v.is) (near v.whole.along v.k v.inside)

  -- What is asked of the run of the line, and what it answers, from the places of its two hills.
  module _ (o c : Place) (p : o ≡ place_in ats notes line.i) (q : c ≡ place_in ats notes line.j) where
    pub line-asks : LineReads row m o c line.low line.high
    line-asks =
        subst (λ (e : Line). o ≡ place_in ats notes e.i → c ≡ place_in ats notes e.j → LineReads row m o c e.lowest e.highest) (sym v.is) (asks v.whole.along v.k v.inside o c) p q

    pub line-answers : (r : Run) → RunIs m (line_levels row m o c line.low line.high) r → LineRun row m (line_in line) r
    line-answers r =
        subst (λ (e : Line). o ≡ place_in ats notes e.i → c ≡ place_in ats notes e.j → RunIs m (line_levels row m o c e.lowest e.highest) r → LineRun row m e r) (sym v.is) (λ p q. answers v.whole.along v.k v.inside o c p q r) p q

-- ---- all of them

along-append : (m : ℕ) (row : List (SummaryIn m)) (es fs : List Line) → runs_along (mode_of m).context row (es ++ fs) ≡ runs_along (mode_of m).context row es ++ runs_along (mode_of m).context row fs
unfolding runs_along
along-append m row [] fs = refl
along-append m row (e ∷ es) fs = ap (λ t. run_of (mode_of m).context (run_levels (mode_of m).algebra row e) ++ t) (along-append m row es fs) ∙ sym (append_assoc (run_of (mode_of m).context (run_levels (mode_of m).algebra row e)) _ _)

along_one : (m : ℕ) (row : List (SummaryIn m)) (e : Line) → runs_along (mode_of m).context row (e ∷ []) ≡ run_of (mode_of m).context (run_levels (mode_of m).algebra row e)
unfolding runs_along
along_one m row e = append-nil _

module _ (row : List ℕ) (m : ℕ) (lines : List HeldLine) where
  abbrev these : ℕ → List (mode_of m).context.K
  these k = runs_along (mode_of m).context (row_in m row) (lines_in (take k lines))

  -- k runs are written
  pub record Written (b out : List ℕ) (k : ℕ) : Type 0 where
    pub count : length (these k) ≡ k
    pub bytes : out ≡ sets b 0 (each_run m (these k))

  pub none_written : (b : List ℕ) → Written b b 0
  unfolding runs_along
  none_written b = record { count = refl; bytes = refl }

  module _ (k : ℕ) (h : k < length lines) (d : HeldLine) where
    abbrev next : Line
    next = line_in (get_or lines k d)

    abbrev new : List (mode_of m).context.K
    new = run_of (mode_of m).context (run_levels (mode_of m).algebra (row_in m row) next)

    these-next : these (k + 1) ≡ these k ++ new
    these-next =
        ap (λ (t : List HeldLine). runs_along (mode_of m).context (row_in m row) (lines_in t)) (take_more lines k d h) ∙
        ap (runs_along (mode_of m).context (row_in m row)) (map-append line_in (take k lines) (get_or lines k d ∷ [])) ∙
        along-append m (row_in m row) (lines_in (take k lines)) (next ∷ []) ∙ ap (λ t. these k ++ t) (along_one m (row_in m row) next)

    pub one_written : (b out out' : List ℕ) (at : ℕ) (r : Run) → Written b out k → LineRun row m next r → at ≡ run_length m * k → out' ≡ sets out at (run_bytes m r) → Written b out' (k + 1)
    one_written b out out' at r w v p e =
        let one : length new ≡ 1 = sym (length-map new (mode_of m).store_run) ∙ ap length v in
        let n : at ≡ 0 + length (each_run m (these k)) = p ∙ ap (λ (c : ℕ). run_length m * c) (sym w.count) ∙ sym (length-each m (these k)) ∙ sym (zero-add (length (each_run m (these k)))) in
        record {
          count = ap length these-next ∙ omega (arith, length-append (these k) new, one, w.count);
          bytes =
              e ∙ ap₂ (λ (o : List ℕ) (a : ℕ). sets o a (run_bytes m r)) w.bytes n ∙ sym (sets-append b 0 (each_run m (these k)) (run_bytes m r)) ∙
              ap (sets b 0) (ap (λ (t : List ℕ). each_run m (these k) ++ t) (sym (each-one m new r v)) ∙ sym (each_append m (these k) new) ∙ ap (each_run m) (sym these-next));
        }

  -- all runs are
  pub all_written : (b out : List ℕ) (k : ℕ) → Written b out k → length lines ≤ k → out ≡ sets b 0 (lines_runs row m (lines_in lines))
  all_written b out k w h = w.bytes ∙ ap (λ (t : List HeldLine). sets b 0 (lines_runs row m (lines_in t))) (take_all k lines h)
