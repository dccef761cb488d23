-- Finish by the fields of the bytes: 10 for a blank, a spoilt one's fault, a hill's middle value or 11. Assumes nothing.
use Rattle.std.specs.Prelude.{◌≡◌, refl, Bool, true, false, ℕ, ◌+◌, ◌≤◌, eqb, ℤ}
use Rattle.std.proofs.Math.Path.{ap}
use Rattle.std.proofs.Common.{◌∙◌, arith}
use mathlib.Core.List.{List}
use Rattle.std.proofs.Math.ListN.{length}
use Rattle.gate.specs.Outcome.{Outcome, refused, granted, onward}
use Rattle.modes.specs.FourModes.{Amounts}
use Rattle.figure.specs.Mode.{mode_of}
use Rattle.figure.specs.Stored.{IsStored}
use Rattle.hill.specs.Verdict.{lower, low, ask, ends}
use Rattle.hill.specs.Finish.{outcome, finish_of}
use Rattle.summary.specs.Layout.{SummaryIn}
use Rattle.summary.specs.Judge.{mode_at, fault_at, spoilt_start_at, start_at, end_at, peak_at, rise_at, fall_at, middle_at, HasLayout, IsSpoilt, IsHill, IsSummary, is_blank, is_spoilt, is_hill}
use Rattle.summary.specs.Decode.{decode, lefts_in, rights_in}
use Rattle.summary.proofs.ModeValues.{numbered}
use Rattle.summary.proofs.Values.{lefts-length, rights-length, reading-blank, reading-spoilt, reading-hill}
use Rattle.summary.proofs.Hills.{hill-stored}
use Rattle.summary.proofs.OutcomeLaws.{finish-is}
use Rattle.chunk.proofs.Laws.{onward-outcome}
use Rattle.summary.specs.Outcomes.{finish_outcome}

-- A fault 7, 8 or 9 is lower than 11.
lower-ends : (f s e : ℕ) → f ≤ 9 → lower f (ends s e) ≡ f
unfolding ends
lower-ends f s e h = go (eqb s 0) (eqb e 0)
  where
    go : (x y : Bool) → lower f (low (ask 11 x) (ask 11 y)) ≡ f
    go true true = refl
    go true false = omega arith
    go false true = omega arith
    go false false = omega arith

module _ (b : List ℕ) where
  abbrev told : SummaryIn (mode_at b) → Outcome ℤ
  told s = onward (finish_of (mode_of (mode_at b)).algebra s) (λ v. granted ((mode_of (mode_at b)).store v))

  finish-told : IsSummary b → finish_outcome b ≡ told (decode (mode_at b) b)
  finish-told i = finish-is (mode_at b) b (record { is = i; mode-is = refl })

  pub finish-blank : HasLayout b 16 6 → finish_outcome b ≡ refused 10
  unfolding decode
  finish-blank f = finish-told (is_blank f) ∙ ap told (reading-blank (mode_of (mode_at b)).read b f.kind_fits)

  pub finish-spoilt : IsSpoilt b → finish_outcome b ≡ refused (fault_at b)
  unfolding decode
  finish-spoilt v =
      finish-told (is_spoilt v) ∙ ap told (reading-spoilt (mode_of (mode_at b)).read b v.layout.kind_fits) ∙ ap refused (lower-ends (fault_at b) (spoilt_start_at b) (end_at b) v.fault-high)

  pub finish-hill : IsHill b → finish_outcome b ≡ outcome (ends (start_at b) (end_at b)) (middle_at b)
  unfolding decode IsStored
  finish-hill v =
      let ls : List (mode_of (mode_at b)).algebra.Fig = lefts_in (mode_of (mode_at b)).read b (rise_at b) in
      let rs : List (Amounts × (mode_of (mode_at b)).algebra.Fig) = rights_in (mode_of (mode_at b)).read b (fall_at b) in
      let s : peak_at b + length ls ≡ start_at b = omega (arith, lefts-length (mode_of (mode_at b)).read b (rise_at b), v.peak-start) in
      let e : peak_at b + length rs ≡ end_at b = omega (arith, rights-length (mode_of (mode_at b)).read b (fall_at b), v.peak-end) in
      finish-told (is_hill v) ∙
      ap told (reading-hill (mode_of (mode_at b)).read b v.layout.kind_fits) ∙
      onward-outcome (mode_of (mode_at b)).store (ends (peak_at b + length ls) (peak_at b + length rs)) ((mode_of (mode_at b)).read (middle_at b)) ∙
      (λ i. outcome (ends (s i) (e i)) ((hill-stored (mode_of (mode_at b)) b (numbered (mode_at b) v.layout.mode-fits) v).middle i))
