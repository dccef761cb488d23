-- Document 01's proved cases, "(P)", those of mode 5 as document 02 has them, and document 02's of the way back through a run, as a table on bytes.
-- Definitions only; `proved-cases` in proofs/ is the one theorem of it.
use Rattle.std.specs.Prelude.{◌≡◌, ℕ, ◌+◌, ◌-◌, ◌*◌, ◌/◌, length, take, drop, ℤ, pos, negsuc}
use mathlib.Core.List.{List, [], ◌∷◌, ◌++◌, map}
use Rattle.gate.specs.Outcome.{Outcome, refused, granted, onward}
use Rattle.number.specs.Bytes.{i64_at}
use Rattle.row.specs.Row.{end_to_end}
use Rattle.record.specs.Record.{open_bytes, close_bytes}
use Rattle.record.proofs.Examples.{log_d}
use Rattle.hill.specs.Row.{on_result}
use Rattle.summary.specs.Judge.{rise_at, left_at}
use Rattle.summary.specs.Outcomes.{summarise_outcome, finish_outcome}
use Rattle.join_plan.specs.Plan.{up_to}
use Rattle.outcome.specs.Day.{day_outcome}
use Rattle.outcome.specs.Line.{ascii, day_line}
use Rattle.outcome.specs.Outcomes.{plan_outcome, runs_outcome}
use Rattle.run_back.specs.Backwards.{backwards_outcome}

-- ---- what is asked of the calls, as numbers

-- The row that summarise writes for these chunks.
abbrev summaries : (mode : ℕ) → List (List ℕ) → Outcome (List (List ℕ))
summaries mode [] = granted []
summaries mode (c ∷ cs) = onward (summarise_outcome c mode 1788) (λ p. onward (summaries mode cs) (λ ps. granted (p ∷ ps)))

-- The lengths of the summaries.
abbrev lengths : (mode : ℕ) → List (List ℕ) → Outcome (List ℤ)
lengths mode cs = on_result (map (λ p. pos (length p))) (summaries mode cs)

-- The left values of a chunk's summary, from level start down.
abbrev left_values : (mode : ℕ) → List ℕ → Outcome (List ℤ)
left_values mode c = on_result (λ p. map (left_at p) (up_to (rise_at p))) (summarise_outcome c mode 1788)

-- Bytes as numbers of 16 bits.
abbrev words : List ℕ → List ℤ
words [] = []
words (a ∷ []) = pos a ∷ []
words (a ∷ b ∷ s) = pos (a + 256 * b) ∷ words s

-- A chunk's summary as such numbers.
abbrev summary : (mode : ℕ) → List ℕ → Outcome (List ℤ)
summary mode c = on_result words (summarise_outcome c mode 1788)

-- A plan of one line: its length and kind, i, j, lowest and highest.
abbrev plan : (mode : ℕ) → List (List ℕ) → Outcome (List ℤ)
plan mode cs = onward (summaries mode cs) (λ ps. on_result words (plan_outcome (end_to_end ps) 12))

-- One run: its length, kind and mode, and its numbers.
abbrev run : (mode : ℕ) → List (List ℕ) → Outcome (List ℤ)
run mode cs =
    onward (summaries mode cs)
    (λ ps. on_result (λ w. words (take 6 w) ++ map (λ i. i64_at w (6 + 8 * i)) (up_to ((length w - 6) / 8))) (runs_outcome (end_to_end ps) 38))

-- What finish answers of a log's summary.
abbrev finish : (mode : ℕ) → List ℕ → Outcome (List ℤ)
finish mode log = onward (summarise_outcome log mode 1788) (λ p. on_result (λ f. f ∷ []) (finish_outcome p))

-- What a run, the only one of a row's plan, leads back to from y.
abbrev back : (mode : ℕ) → List (List ℕ) → ℤ → Outcome (List ℤ)
back mode cs y = onward (summaries mode cs) (λ ps. onward (runs_outcome (end_to_end ps) 38) (λ w. on_result (λ x. x ∷ []) (backwards_outcome w y)))

-- The bytes that the day program prints for a log.
abbrev printed : List ℕ → Outcome (List ℤ)
printed log = granted (map pos (day_line (day_outcome log)))

-- ---- the table

-- D cut after record 2.
abbrev cut_d : List (List ℕ)
cut_d = take 36 log_d ∷ drop 36 log_d ∷ []

abbrev open0 : List ℕ
open0 = open_bytes 0 (pos 10) (pos 0) (pos 100)

-- What the definitions give, and what the paper says.
pub record Case : Type 0 where
  pub gives : Outcome (List ℤ)
  pub paper : Outcome (List ℤ)

abbrev says : Outcome (List ℤ) → Outcome (List ℤ) → Case
says g p = record { gives = g; paper = p }

abbrev pub table : List Case
table =
    -- "Log D gives `12 15 12 72`", with a newline
    says (printed log_d) (granted (map pos (ascii "12 15 12 72\n"))) ∷
    -- "D cut after record 2, mode 1: lengths 64 and 40; left values 0, -3; plan 0,1,0,1"
    says (lengths 1 cut_d) (granted (pos 64 ∷ pos 40 ∷ [])) ∷
    says (left_values 1 (drop 36 log_d)) (granted (pos 0 ∷ negsuc 2 ∷ [])) ∷
    says (plan 1 cut_d) (granted (pos 12 ∷ pos 19 ∷ pos 0 ∷ pos 1 ∷ pos 0 ∷ pos 1 ∷ [])) ∷
    -- "Runs: (12,0,0); (15,7,15); ..; (961,72,0)", and in mode 5 "it is (12,12,7,11)"
    says (run 1 cut_d) (granted (pos 30 ∷ pos 20 ∷ pos 1 ∷ pos 12 ∷ pos 0 ∷ pos 0 ∷ [])) ∷
    says (run 2 cut_d) (granted (pos 30 ∷ pos 20 ∷ pos 2 ∷ pos 15 ∷ pos 7 ∷ pos 15 ∷ [])) ∷
    says (run 4 cut_d) (granted (pos 30 ∷ pos 20 ∷ pos 4 ∷ pos 961 ∷ pos 72 ∷ pos 0 ∷ [])) ∷
    says (run 5 cut_d) (granted (pos 38 ∷ pos 20 ∷ pos 5 ∷ pos 12 ∷ pos 12 ∷ pos 7 ∷ pos 11 ∷ [])) ∷
    -- "For one level the way back multiplies by 3,186,588,639": of one record of 10 g, 31 x + 10, from 11
    says (back 4 (open0 ∷ close_bytes 0 ∷ []) (pos 11)) (granted (pos 3_186_588_639 ∷ [])) ∷
    -- "No bytes: blank, finish 10. \"close 1\" alone: 11. open 0, close 0 twice over: 8. open 0, open 0: 7."
    says (summary 1 []) (granted (pos 6 ∷ pos 16 ∷ pos 1 ∷ [])) ∷
    says (finish 1 []) (refused 10) ∷
    says (finish 1 (close_bytes 1)) (refused 11) ∷
    says (finish 1 (open0 ++ (close_bytes 0 ++ (open0 ++ close_bytes 0)))) (refused 8) ∷
    says (finish 1 (open0 ++ open0)) (refused 7) ∷
    []

abbrev pub AllHold : List Case → Type 0
AllHold [] = Unit {0}
AllHold (r ∷ rs) = (r.gives ≡ r.paper) × AllHold rs
