-- The parts of the test of question 5, as the code's branches meet them. Assumes nothing.
use mathlib.Core.Path.{◌≡◌, ap₂, ◌∙◌, sym}
use mathlib.Core.Bool.{Bool, true, false, cond, ◌&&◌, and-false}
use mathlib.Core.List.{List}
use Prim.Native.Nat.{ℕ, ◌≤◌, ◌<◌}
use native.Mathlib.Omega.{arith}
use lib.Dec.{eqb}
use lib.ListN.{length}
use borrow.Author.Tests.{ne_eqb}
use Rattle.gate.specs.Outcome.{refused, granted}
use Rattle.figure.specs.Mode.{mode_in_use}
use Rattle.summary.specs.Judge.{length_at, kind_at, mode_at, start_at, peak_at, end_at, opened_at}
use Rattle.summary.specs.Decide.{layout_fits, levels_fit, opened_fits, middle_fits, records_fit, values_fit, hill_fits, is_summary}
use Rattle.summary.proofs.Tests.{tells-and, tells-le, tells-eq, tells-true}
use Rattle.judge.specs.Judged.{head_at, judged_of}
use Rattle.judge.specs.Laid.{hill_length, is_spoilt_test, is_hill_test, Levels, Laid, Few}
use Rattle.judge.specs.Laws.{judged-yes, judged-no}
use Rattle.judge.specs.declared.Head.{Head}

module _ (b : List ℕ) where
  -- ---- another length

  other_length : (kind bytes : ℕ) → (length b ≡ bytes → ⊥) → layout_fits b kind bytes ≡ false
  unfolding layout_fits
  other_length kind bytes n = rw (ne_eqb (length b) bytes n, and-false (eqb (kind_at b) kind))

  pub short-spoilt : length b < 16 → is_spoilt_test b ≡ false
  short-spoilt h = rw (other_length 17 16 (λ e. omega arith))

  pub short-hill : length b < 24 → is_hill_test b ≡ false
  short-hill h = rw (other_length 18 (hill_length b) (λ e. omega arith))

  pub short_none : length b < 6 → judged_of b ≡ refused 5
  unfolding is_summary
  short_none h = judged-no b (go (eqb (kind_at b) 16) (eqb (kind_at b) 17))
    where
      go : (s t : Bool) → cond s (layout_fits b 16 6) (cond t (is_spoilt_test b) (is_hill_test b)) ≡ false
      go true t = other_length 16 6 (λ e. omega arith)
      go false true = short-spoilt (omega arith)
      go false false = short-hill (omega arith)

  -- ---- a hill's layout

  pub levels-of : 16 ≤ length b → levels_fit b ≡ true → Levels b
  unfolding levels_fit
  levels-of h e =
      let p = (tells-and (tells-and (tells-and (tells-and (tells-le (start_at b) 64) (tells-le (end_at b) 64)) (tells-le (peak_at b) (start_at b))) (tells-le (peak_at b) (end_at b))) (tells-true _)).from e in
      record { long = h; start-high = p.0.0.0.0; end-high = p.0.0.0.1; peak-start = p.0.0.1; peak-end = p.0.1 }

  pub laid_of : Levels b → layout_fits b 18 (hill_length b) ≡ true → Laid b
  unfolding layout_fits
  laid_of l e =
      let p = (tells-and (tells-and (tells-and (tells-eq (kind_at b) 18) (tells-eq (length b) (hill_length b))) (tells-eq (length_at b) (length b))) (tells-true (mode_in_use (mode_at b)))).from e in
      let q : length b ≡ hill_length b = p.0.0.1 in
      record { levels = l; whole = omega arith }

  pub few-of : Laid b → opened_fits b ≡ true → Few b
  unfolding opened_fits
  few-of l e = record { laid = l; few = ((tells-and (tells-le (opened_at b) 100_000) (tells-true _)).from e).0 }

  -- ---- a hill, test by test

  pub bad-levels : levels_fit b ≡ false → is_hill_test b ≡ false
  unfolding hill_fits
  bad-levels e = rw (e, and-false (layout_fits b 18 (hill_length b)))

  pub bad-layout : layout_fits b 18 (hill_length b) ≡ false → is_hill_test b ≡ false
  bad-layout e = rw e

  pub bad-opened : opened_fits b ≡ false → is_hill_test b ≡ false
  unfolding hill_fits
  bad-opened e = rw e (simp and-false)

  pub hill-tests : (m r v : Bool) → levels_fit b ≡ true → layout_fits b 18 (hill_length b) ≡ true → opened_fits b ≡ true
      → m ≡ middle_fits b → r ≡ records_fit b → v ≡ values_fit b → m && r && v ≡ is_hill_test b
  unfolding hill_fits
  hill-tests m r v l a o em er ev = rw (l, a, o) (ap₂ ◌&&◌ (ap₂ ◌&&◌ em er) ev)

  -- ---- an answer

  pub answer-yes : is_summary b ≡ true → (m : ℕ) (h : Head) → m ≡ mode_at b → h ≡ head_at b → granted (record { mode = m; head = h }) ≡ judged_of b
  answer-yes y m h p q = ap₂ (λ (k : ℕ) (x : Head). granted (record { mode = k; head = x })) p q ∙ sym (judged-yes b y)

  pub answer-no : is_summary b ≡ false → refused 5 ≡ judged_of b
  answer-no n = sym (judged-no b n)
