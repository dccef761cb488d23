-- A pass over a whole log that judges it: what every such loop keeps from turn to turn, and what it comes to. Assumes nothing.
use Rattle.std.specs.Prelude.{◌≡◌, List, [], ◌∷◌, ◌++◌, ℕ, ◌-◌, ◌≤◌, ◌<◌, length, take, drop, Option, Some, None}
use Rattle.std.proofs.Common.{sym, ap, ◌∙◌, arith}
use Rattle.std.proofs.lemmas.List.{length-map}
use Rattle.gate.specs.Outcome.{Outcome, refused, granted}
use Rattle.record.specs.Record.{read_of}
use Rattle.record.proofs.Laws.{sound}
use Rattle.record.proofs.Handed as handing
use Rattle.record.proofs.Handed.{Handed}
use Rattle.record.specs.declared.Fields.{Fields}
use Rattle.hill.specs.Verdict.{Verdict}
use Rattle.hill.specs.Log.{Record, opened_of}
use Rattle.hill.specs.Finish.{outcome}
use Rattle.hill.proofs.Growth.{opened-few}
use Rattle.modes.specs.FourModes.{Amounts}
use Rattle.gate.specs.Answers.{number_of}
use Rattle.gate.specs.declared.Refusal.{Refusal}
use Rattle.fault.specs.Fault.{verdict_of}
use Rattle.fault.specs.Laws.{found-is, clear-is}
use Rattle.chunk.specs.Chunk.{record_of, chunk_of}
use Rattle.chunk.proofs.Laws.{depth_low, chunk-append, answer_from, unreadable, readable}
use Rattle.whole_log.specs.declared.Tally.{Tally}
use Rattle.whole_log.specs.Tallies.{Fresh, Tallied, log_verdict}
use Rattle.whole_log.specs.TallyLaws.{opened-is, log-verdict}

-- Of the log, at most 65,536 bytes, the records `done` are read and `rest` is left; t tells of those read.
pub record Reading (log rest : List ℕ) (done : List Fields) (t : Tally) : Type 0 where
  pub short : length log ≤ 65_536
  pub handed : Handed log rest done
  pub tallied : Tallied (chunk_of done) t

pub begin : {log : List ℕ} {t : Tally} → length log ≤ 65_536 → Fresh t → Reading log log [] t
begin {log} short f = record { short = short; handed = handing.start log; tallied = f }

module _ {log rest : List ℕ} {done : List Fields} {t : Tally} (i : Reading log rest done t) where
  pub few : opened_of (chunk_of done) ≤ 65_536
  few = omega (arith, i.short, i.handed.few, length-map done record_of, opened-few (chunk_of done))

  pub opened-low : t.opened ≤ 65_536
  opened-low = omega (arith, few, opened-is (chunk_of done) t i.tallied)

  -- ---- one turn

  module _ {f : Fields} (e : read_of rest ≡ granted f) where
    pub deep : f.depth ≤ 63
    deep = depth_low f (sound rest f e).ranged

    pub next : {u : Tally} → Tallied (chunk_of done ++ (record_of f ∷ [])) u → Reading log (take (length rest - f.length) (drop f.length rest)) (done ++ (f ∷ [])) u
    next s = record {
      short = i.short;
      handed = handing.next i.handed f e;
      tallied = rw (chunk-append done (f ∷ [])) s;
    }

  -- ---- what a call comes to that answers f of the log's records

  module _ {B : Type 0} (f : List (Record Amounts) → B) where
    pub stopped : 0 < length rest → read_of rest ≡ refused 3 → answer_from f log ≡ refused 3
    stopped h e = unreadable f log i.short 3 (handing.unreadable i.handed h e)

    pub ended : length rest ≤ 0 → answer_from f log ≡ outcome (log_verdict t) (f (chunk_of done))
    ended h =
        readable f log i.short done (handing.finished i.handed h)
        ∙ ap (λ v. outcome v (f (chunk_of done))) (sym (log-verdict (chunk_of done) t i.tallied (omega (arith, few))))

-- ---- what is answered of a verdict that a fault says

module _ {A : Type 0} {v : Verdict} {a : Option Refusal} (x : A) (e : verdict_of a ≡ v) where
  pub refuses : {r : Refusal} → a ≡ Some r → ◌≡◌ {A = Outcome A} (refused (number_of r)) (outcome v x)
  refuses l = rw (found-is e l)

  pub answers : a ≡ None → ◌≡◌ {A = Outcome A} (granted x) (outcome v x)
  answers l = rw (clear-is e l)
