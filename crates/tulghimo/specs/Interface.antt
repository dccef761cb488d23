-- What the C functions answer and leave in the lent buffers, from what the calls come to. Definitions only.
use Rattle.std.specs.Prelude.{List, [], ◌∷◌, ℕ, ◌^◌, ◌<◌, ℤ, pos, neg_ℤ}
use Rattle.gate.specs.Outcome.{Outcome, refused, granted}
use Rattle.record.specs.Record.{kind_number}
use Rattle.record.specs.declared.Fields.{Fields}
use Rattle.outcome.specs.declared.Figures.{Figures}
use Rattle.plan_work.specs.Work.{Work}

-- A refusal is the question's number, negative; a call that is done answers 0, ..
abbrev pub status_of : {A : Type 0} → Outcome A → ℤ
status_of (refused n) = neg_ℤ (pos n)
status_of (granted a) = pos 0

-- .. or, where it wrote bytes, how many, ..
abbrev pub length_status : Outcome ℕ → ℤ
length_status (refused n) = neg_ℤ (pos n)
length_status (granted n) = pos n

-- .. or, where it names a record, that record's number, in the same way.
abbrev pub record_status : Outcome ℕ → ℤ
record_status o = length_status o

-- A length that is a signed 64-bit number.
abbrev pub Short : Outcome ℕ → Type 0
Short (refused n) = Unit {0}
Short (granted n) = n < 2 ^ 63

-- The buffer of seven: the record's fields in the order of document 01 and then its batch, or as it was.
abbrev pub fields_after : Outcome Fields → List ℤ → List ℤ
fields_after (refused n) fields = fields
fields_after (granted f) fields = pos (kind_number f.kind) ∷ pos f.length ∷ pos f.depth ∷ f.value ∷ f.floor ∷ f.ceiling ∷ pos f.batch ∷ []

-- The buffer of one: the figure, or as it was.
abbrev pub figure_after : Outcome ℤ → List ℤ → List ℤ
figure_after (refused n) figure = figure
figure_after (granted z) figure = z ∷ []

-- The buffer of four: the day's figures, or as it was.
abbrev pub figures_after : Outcome Figures → List ℤ → List ℤ
figures_after (refused n) figures = figures
figures_after (granted f) figures = f.net ∷ f.heaviest ∷ f.eaten ∷ f.stamp ∷ []

-- The buffer of three: "the figure, the joins used (its lines) and the number of levels folded", or as it was.
abbrev pub work_after : Outcome (Work ℤ) → List ℤ → List ℤ
work_after (refused n) totals = totals
work_after (granted w) totals = w.figure ∷ pos w.joins ∷ pos w.levels ∷ []
