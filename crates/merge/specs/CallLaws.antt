-- Merging two: the questions, one for each way out, and the two as bytes. Assumes nothing.
use Rattle.std.specs.Prelude.{◌≡◌, refl, true, false, List, ℕ}
use Rattle.std.proofs.Common.{sym, ◌∙◌}
use borrow.Author.Tests.{ne_eqb}
use Rattle.gate.specs.Outcome.{refused}
use Rattle.figure.specs.Mode.{mode_of}
use Rattle.hill.specs.Merge.{merge_summary}
use Rattle.summary.specs.Judge.{mode_at}
use Rattle.summary.specs.Decide.{is_summary}
use Rattle.summary.specs.Layout.{encode}
use Rattle.summary.specs.Decode.{decode}
use Rattle.summary.specs.Accepted.{IsSummaryIn}
use Rattle.summary.specs.Outcomes.{merge_bytes, merge_outcome}
use Rattle.judge.specs.declared.Piece.{Piece}
use Rattle.judge.specs.Laws.{Judges, judged-mode}

-- ---- 5, 6

module _ (a b : List ℕ) (cap : ℕ) where
  pub left-5 : is_summary a ≡ false → merge_outcome a b cap ≡ refused 5
  unfolding merge_outcome
  left-5 e = rw e

  pub right-5 : is_summary a ≡ true → is_summary b ≡ false → merge_outcome a b cap ≡ refused 5
  unfolding merge_outcome
  right-5 e f = rw (e, f)

  pub modes-6 : is_summary a ≡ true → is_summary b ≡ true → (mode_at a ≡ mode_at b → ⊥) → merge_outcome a b cap ≡ refused 6
  unfolding merge_outcome
  modes-6 e f n = rw (e, f, ne_eqb (mode_at a) (mode_at b) n)

module _ {a b : List ℕ} {p q : Piece} (i : Judges a p) (j : Judges b q) where
  pub other-mode : (p.mode ≡ q.mode → ⊥) → (cap : ℕ) → merge_outcome a b cap ≡ refused 6
  other-mode n cap = modes-6 a b cap i.test j.test (λ e. n (judged-mode i ∙ e ∙ sym (judged-mode j)))

  pub both-in : p.mode ≡ q.mode → IsSummaryIn p.mode a × IsSummaryIn p.mode b
  both-in e = (record { is = i.summary; mode-is = sym (judged-mode i) }, record { is = j.summary; mode-is = sym (judged-mode j) ∙ sym e })

-- ---- two pieces, as bytes

pub two-merged : (m : ℕ) (a b : List ℕ) → encode m (merge_summary (mode_of m).algebra (decode m a) (decode m b)) ≡ merge_bytes m a b
unfolding merge_bytes
two-merged m a b = refl
