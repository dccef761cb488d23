-- What holds of a row that is let through: its summaries are accepted, it has no fault, and its middle values stand where they are noted. Assumes nothing.
use Rattle.std.specs.Prelude.{◌≡◌, refl, Bool, true, false, List, ℕ, ◌≤◌, ◌<◌, eqb, length, Option, Some, None}
use Rattle.std.proofs.Math.Path.{sym, ap, subst}
use Rattle.std.proofs.Common.{◌∙◌, arith, ne_eqb}
use Rattle.std.proofs.Math.Bool.{cond}
use Rattle.row.specs.Row.{row_pieces}
use Rattle.algebra.specs.Algebra.{Algebra}
use Rattle.modes.specs.FourModes.{Amounts}
use Rattle.figure.specs.Mode.{mode_of}
use Rattle.figure.specs.Stored.{IsStored, size_of}
use Rattle.hill.specs.Summary.{Summary, blank, part, spoilt, whole, middle}
use Rattle.summary.specs.Layout.{SummaryIn}
use Rattle.summary.specs.Judge.{kind_at, peak_at, middle_at, IsHill, IsSummary, is_blank, is_spoilt, is_hill}
use Rattle.summary.specs.Decode.{decode}
use Rattle.summary.proofs.Values.{reading-blank, reading-spoilt, reading-hill}
use Rattle.judge.specs.Judged.{head_at, hill_head_at}
use Rattle.judge.specs.Numbers.{numbers_of}
use Rattle.judge.specs.declared.Numbers.{Numbers}
use Rattle.judge.specs.declared.Head.TheVariants.{Hill}
use Rattle.judge.specs.Laws.{head-blank, head-spoilt, head-hill}
use Rattle.plan_work.specs.Fair.{ValidRow}
use Rattle.plan_work.specs.Runs.{peak_of_summary, slopes_of, summary_at}
use Rattle.plan_work.specs.WorkSizes.{load}
use Rattle.plan_work.proofs.WorkSizes.{load_fits, middle-light}
use Rattle.row_gate.specs.Notes.{no_peak, note_at}
use Rattle.outcome.proofs.Through.{valid-row}
use Rattle.row_gate.specs.RowLaws.{each_in, decoded-at}
use Rattle.run_level.specs.Levels.{piece_of, peak_of, place_in}
use Rattle.run_level.specs.Lines.{placed}
use Rattle.run_level.specs.StandsFor.{all-stored, mode-at}
use Rattle.row_gate.specs.Asks.{LetThrough}
use Rattle.run_level.specs.Along.{row_in, Ready}
use Rattle.work.specs.Stores.{size_is}
use Rattle.work.specs.Promised.{outcome_most, IsPlaceOfHill, middle_if}

module _ {row : List ℕ} {count m : ℕ} {notes : List (Option Numbers)} (t : LetThrough row count m notes) where
  abbrev 𝒜 : Algebra Amounts
  𝒜 = (mode_of m).algebra

  pub valid : ValidRow 𝒜 (mode_of m).sizes (row_in m row)
  valid = valid-row m (row_pieces row) t.all

  -- All that its opened records can make.
  pub row-light : load 𝒜 (mode_of m).sizes (row_in m row) ≤ outcome_most
  row-light = load_fits 𝒜 (mode_of m).sizes (row_in m row) valid (mode_of m).laws (mode_of m).commutative t.faultless (mode_of m).unit-small

-- A summary that is a hill.
abbrev pub IsWhole : {Fig R : Type 0} → Summary Fig R → Type 0
IsWhole blank = ⊥
IsWhole (part (spoilt f s e o)) = ⊥
IsWhole (part (whole p o g)) = Unit {0}

cond_same : {A : Type 0} (t : Bool) (a : A) → cond t a a ≡ a
cond_same true a = refl
cond_same false a = refl

module _ {row : List ℕ} {count m : ℕ} {ats : List ℕ} {notes : List (Option Numbers)} (t : Ready row count m ats notes) (k : ℕ) (h : k < count) where
  in_row : k < length (row_pieces row)
  in_row = omega (arith, t.let_through.long)

  abbrev b : List ℕ
  b = piece_of row k

  is : IsSummary b
  is = each_in m (row_pieces row) t.let_through.all k in_row

  decoded : summary_at (mode_of m).algebra (row_in m row) k ≡ decode m b
  decoded = decoded-at m (row_pieces row) k in_row

  -- What the piece gives to the middle values at a level.
  abbrev at_level : SummaryIn m → ℕ → (mode_of m).algebra.Fig
  at_level s level = cond (eqb (peak_of_summary (mode_of m).algebra s) level) (middle (slopes_of (mode_of m).algebra s)) (mode_of m).algebra.ι

  abbrev noted : ℕ → (mode_of m).algebra.Fig
  noted level = middle_if row m (place_in ats notes k) level

  not_noted : (level : ℕ) → level ≤ 64 → 64 < peak_of (note_at notes k) → noted level ≡ (mode_of m).algebra.ι
  not_noted level l n = rw (ne_eqb (peak_of (note_at notes k)) level (omega arith))

  pub hill-middle : IsHill b → middle (slopes_of (mode_of m).algebra (summary_at (mode_of m).algebra (row_in m row) k)) ≡ (mode_of m).read (middle_at b)
  unfolding decode
  hill-middle v = ap (λ (s : SummaryIn m). middle (slopes_of (mode_of m).algebra s)) (decoded ∙ reading-hill (mode_of m).read b v.layout.kind_fits)

  note-is : note_at notes k ≡ numbers_of (head_at b)
  note-is = t.let_through.noted k in_row

  blank-note : kind_at b ≡ 16 → note_at notes k ≡ None
  blank-note v = note-is ∙ ap numbers_of (head-blank b v)

  blank-peak : kind_at b ≡ 16 → peak_of (note_at notes k) ≡ no_peak
  blank-peak v = ap peak_of (blank-note v)

  spoilt-peak : kind_at b ≡ 17 → peak_of (note_at notes k) ≡ no_peak
  spoilt-peak v = ap peak_of (note-is ∙ ap numbers_of (head-spoilt b v))

  hill-note : IsHill b → note_at notes k ≡ numbers_of (Hill (hill_head_at b))
  hill-note v = note-is ∙ ap numbers_of (head-hill b (λ e. omega (arith, v.layout.kind_fits)) (λ e. omega (arith, v.layout.kind_fits)))

  hill-peak : (v : IsHill b) → peak_of (note_at notes k) ≡ peak_at b
  hill-peak v = ap peak_of (hill-note v)

  -- A peak below `no_peak` is a hill's.
  pub noted-hill : peak_of (note_at notes k) < no_peak → IsHill b
  noted-hill l = go is
    where
      go : IsSummary b → IsHill b
      go (is_blank f) = absurd (omega (arith, blank-peak f.kind_fits))
      go (is_spoilt v) = absurd (omega (arith, spoilt-peak v.layout.kind_fits))
      go (is_hill v) = v

  -- What is noted is a hill's, where nothing spoilt is.
  pub some-hill : (n : Numbers) → note_at notes k ≡ Some n → ((f s e o : ℕ) → summary_at (mode_of m).algebra (row_in m row) k ≡ part (spoilt f s e o) → ⊥) → IsHill b
  unfolding decode
  some-hill n e unspoilt = go is
    where
      go : IsSummary b → IsHill b
      go (is_blank f) = let z : None ≡ Some n = sym (blank-note f.kind_fits) ∙ e in cc
      go (is_spoilt v) = absurd (unspoilt _ _ _ _ (decoded ∙ reading-spoilt (mode_of m).read b v.layout.kind_fits))
      go (is_hill v) = v

  pub hill-place : IsHill b → IsPlaceOfHill row (place_in ats notes k)
  hill-place v = record { placed = placed t.let_through t.begun k h v; is = v }

  pub noted-place : peak_of (note_at notes k) < no_peak → IsPlaceOfHill row (place_in ats notes k)
  noted-place l = hill-place (noted-hill l)

  -- Its middle value stands for a figure, and is light.
  pub middle-stored : IsHill b → IsStored (mode_of m) (middle_at b)
  middle-stored v = (all-stored m b v (mode-at m (row_pieces row) t.let_through.all k in_row)).middle

  pub middle-small : IsHill b → size_of (mode_of m) (middle_at b) ≤ outcome_most
  middle-small v =
      let e : (mode_of m).sizes.size (middle (slopes_of (mode_of m).algebra (summary_at (mode_of m).algebra (row_in m row) k))) ≡ (mode_of m).sizes.size ((mode_of m).read (middle_at b)) = ap (mode_of m).sizes.size (hill-middle v) in
      omega (arith, size_is (mode_of m) (middle_at b), middle-light (mode_of m).algebra (mode_of m).sizes (row_in m row) (valid t.let_through) k, row-light t.let_through)

  -- WHAT IS NOTED is what the plan's definition takes.
  pub middle-noted : (level : ℕ) → level ≤ 64 → at_level (summary_at (mode_of m).algebra (row_in m row) k) level ≡ noted level
  unfolding decode
  middle-noted level l = go is
    where
      go : IsSummary b → at_level (summary_at (mode_of m).algebra (row_in m row) k) level ≡ noted level
      go (is_blank f) =
          ap (λ (s : SummaryIn m). at_level s level) (decoded ∙ reading-blank (mode_of m).read b f.kind_fits) ∙ cond_same (eqb 0 level) (mode_of m).algebra.ι ∙
          sym (not_noted level l (omega (arith, blank-peak f.kind_fits)))
      go (is_spoilt v) =
          ap (λ (s : SummaryIn m). at_level s level) (decoded ∙ reading-spoilt (mode_of m).read b v.layout.kind_fits) ∙ cond_same (eqb 0 level) (mode_of m).algebra.ι ∙
          sym (not_noted level l (omega (arith, spoilt-peak v.layout.kind_fits)))
      go (is_hill v) =
          ap (λ (s : SummaryIn m). at_level s level) (decoded ∙ reading-hill (mode_of m).read b v.layout.kind_fits) ∙
          ap (λ (n : ℕ). cond (eqb n level) ((mode_of m).read (middle_at b)) (mode_of m).algebra.ι) (sym (hill-peak v))

  -- A peak above all levels is no hill's.
  pub no-hill : 64 < peak_of (note_at notes k) → IsWhole (summary_at (mode_of m).algebra (row_in m row) k) → ⊥
  unfolding decode
  no-hill l w = go is
    where
      go : IsSummary b → ⊥
      go (is_blank f) = subst IsWhole (decoded ∙ reading-blank (mode_of m).read b f.kind_fits) w
      go (is_spoilt v) = subst IsWhole (decoded ∙ reading-spoilt (mode_of m).read b v.layout.kind_fits) w
      go (is_hill v) = omega (arith, hill-peak v, v.peak-start, v.start-high)

  -- Where nothing is noted there is no hill.
  pub none-no-hill : note_at notes k ≡ None → IsWhole (summary_at (mode_of m).algebra (row_in m row) k) → ⊥
  none-no-hill e = no-hill (omega (arith, ap peak_of e))
