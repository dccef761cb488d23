-- A farm's day is its log's: what its end of day hands out finishes to what demand 3 says of the log. Assumes nothing.
use Rattle.std.specs.Prelude.{◌≡◌, List, [], map, ℕ, ◌≤◌}
use Rattle.std.proofs.Common.{sym, subst, ◌∙◌}
use Rattle.std.proofs.Math.Path.{ap}
use Rattle.gate.specs.Outcome.{written}
use Rattle.modes.specs.FourModes.{Amounts}
use Rattle.hill.specs.Log.{Record}
use Rattle.hill.specs.Row.{joined}
use Rattle.summary.specs.Outcomes.{summary_bytes}
use Rattle.summary.proofs.MergeBytes.{Readables}
use Rattle.summary.proofs.OutcomeLaws.{chunk-readable}
use Rattle.valley_station.specs.Runs.{FarmCall, tell_handed, merged_in_order}
use Rattle.valley_station.proofs.RunLaws.{chunks-in-order}
use Rattle.valley_station.proofs.ClaimLaws.{serves}
use Rattle.claim.specs.Claim.{records_read, parts, stretch_bytes, IsCut}
use Rattle.claim.proofs.Stretches.{found}
use Rattle.claim.proofs.LogRow.{finish-log}
use Rattle.claim.proofs.BatchLaws.{row-of}
use Rattle.claim.proofs.Demand3.{demand3}
use Rattle.claim.specs.Farms.{SentWhole, HandsOutLog}

module _ (mode : ℕ) (log places : List ℕ) (buffers : List (List ℕ)) (i : IsCut mode log places buffers) where
  abbrev chunks : List (List (Record Amounts))
  chunks = parts (records_read log) 0 places

  chunks-joined : joined (parts (records_read log) 0 places) ≡ records_read log
  chunks-joined = (demand3 mode log places buffers [] i tt).cut-records

  log-readable : Readables mode (records_read log)
  log-readable = subst (Readables mode) (sym (found log i.readable.0 i.readable.1)) (chunk-readable mode log i.readable.0 i.readable.1)

  merged-log : merged_in_order mode (map (summary_bytes mode) chunks) ≡ stretch_bytes mode log
  unfolding stretch_bytes
  merged-log = chunks-in-order mode i.mode-in-use chunks (subst (Readables mode) (sym chunks-joined) log-readable) ∙ ap (summary_bytes mode) chunks-joined

  -- A FARM'S DAY, sent in the chunks of a cut log.
  pub day-of-log : (calls : List FarmCall) (farm : ℕ) → farm ≤ 7 → SentWhole mode log places buffers calls farm → HandsOutLog mode log calls farm
  day-of-log calls farm l e = record {
    handed_out = λ cap. (serves mode i.mode-in-use calls).hands_out farm cap l ∙ ap (λ (w : List ℕ). tell_handed (written cap w)) (ap (merged_in_order mode) (e ∙ row-of mode log places buffers i) ∙ merged-log);
    finished = finish-log mode i.mode-in-use log i.readable;
  }
