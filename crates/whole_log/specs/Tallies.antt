-- What a pass over records keeps beside what it computes. Definitions only.
use Rattle.std.specs.Prelude.{◌≡◌, true, false, cond, List, [], ◌∷◌, None}
use Rattle.hill.specs.Verdict.{Verdict, refuse, low, ends}
use Rattle.hill.specs.Log.{Record, start_level, end_of, opened_of, joints}
use Rattle.modes.specs.FourModes.{Amounts}
use Rattle.fault.specs.Fault.{verdict_of}
use Rattle.whole_log.specs.declared.Tally.{Tally}

-- t tells of the chunk x ∷ xs: its levels, the lowest of faults 7 and 8, and its opened records.
pub record Tells (x : Record Amounts) (xs : List (Record Amounts)) (t : Tally) : Type 0 where
  pub begun : t.begun ≡ true
  pub start : t.start ≡ start_level x
  pub level : t.level ≡ end_of x xs
  pub fault : verdict_of t.fault ≡ joints x xs
  pub opened : t.opened ≡ opened_of (x ∷ xs)

-- There was no record yet.
pub record Fresh (t : Tally) : Type 0 where
  pub begun : t.begun ≡ false
  pub start : t.start ≡ 0
  pub level : t.level ≡ 0
  pub fault : t.fault ≡ None
  pub opened : t.opened ≡ 0

abbrev pub Tallied : List (Record Amounts) → Tally → Type 0
Tallied [] t = Fresh t
Tallied (x ∷ xs) t = Tells x xs t

-- What is asked of a log once all its records are noted: 10 of whether there is any, 11 of where it starts and ends, and the lowest fault before that.
abbrev pub log_verdict : Tally → Verdict
log_verdict t = cond t.begun (low (verdict_of t.fault) (ends t.start t.level)) (refuse 10)
