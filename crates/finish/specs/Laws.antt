-- Finish by the head of the summary. Assumes nothing.
use Rattle.std.specs.Prelude.{◌≡◌, false, List, ℕ}
use Rattle.std.proofs.Common.{sym, ap, ◌∙◌}
use Rattle.gate.specs.Outcome.{refused}
use Rattle.gate.specs.Answers.{number_of}
use Rattle.hill.specs.Verdict.{ends}
use Rattle.hill.specs.Finish.{outcome}
use Rattle.modes.specs.FourModes.{store_held}
use Rattle.summary.specs.Judge.{mode_at, start_at, end_at, middle_at}
use Rattle.summary.specs.Decide.{is_summary}
use Rattle.summary.proofs.FinishBytes.{finish-blank, finish-spoilt, finish-hill}
use Rattle.summary.specs.Outcomes.{finish_outcome}
use Rattle.judge.specs.Laws.{Judges, blank-is, spoilt-is, hill-is, held_back, fault-number}
use Rattle.judge.specs.declared.SpoiltHead.{SpoiltHead}
use Rattle.judge.specs.declared.HillHead.{HillHead}
use Rattle.judge.specs.declared.Piece.{Piece}
use Rattle.judge.specs.declared.Head.TheVariants.{Blank, Spoilt, Hill}

module _ (b : List ℕ) where
  pub not-one : is_summary b ≡ false → refused 5 ≡ finish_outcome b
  unfolding finish_outcome
  not-one e = rw e

  module _ {p : Piece} (j : Judges b p) where
    pub is-blank : p.head ≡ Blank → refused 10 ≡ finish_outcome b
    is-blank q = sym (finish-blank b (blank-is j q))

    pub is-spoilt : (h : SpoiltHead) → p.head ≡ Spoilt h → refused (number_of h.fault) ≡ finish_outcome b
    is-spoilt h q = let v = spoilt-is j h q in rw v.1 (ap refused (fault-number v.0) ∙ sym (finish-spoilt b v.0))

    pub is-hill : (h : HillHead) → p.head ≡ Hill h → outcome (ends h.start h.end) (store_held h.middle) ≡ finish_outcome b
    is-hill h q =
        let v = hill-is j h q in
        rw v.1 (ap (outcome (ends (start_at b) (end_at b))) (held_back (mode_at b) (middle_at b)) ∙ sym (finish-hill b v.0))
