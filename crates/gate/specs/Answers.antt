-- What the answers of the calls say, in the documents' numbers and values. Definitions only.
use Rattle.std.specs.Prelude.{List, ℕ, length, Result, Ok, Err}
use Rattle.gate.specs.Outcome.{Outcome, refused, granted}
use Rattle.gate.specs.declared.Refusal.{Refusal}
use Rattle.gate.specs.declared.Refusal.TheVariants as no

-- The number of each question: 1 to 12 are document 01's, "The questions at the gate", and those from 13 on are document 02's.
abbrev pub number_of : Refusal → ℕ
-- "Is the mode 1 to 4?", which is 1, 2, 4 or 5 since document 02, L3
number_of no.Mode = 1
-- "Is the chunk at most 65,536 bytes?"
number_of no.TooLong = 2
-- "Is every record readable?"
number_of no.Unreadable = 3
-- "Are there 2 to 64 pieces (each call on a row)?"
number_of no.PieceCount = 4
-- "Is each given piece exactly one summary?"
number_of no.NotASummary = 5
-- "Are all of one mode?"
number_of no.MixedModes = 6
-- "Do neighbouring records meet at one level?"
number_of no.LevelGap = 7
-- "Is every level between records above 0?"
number_of no.LevelZero = 8
-- "Are at most 100,000 records opened?"
number_of no.TooManyOpened = 9
-- "Is there any record?"
number_of no.NoRecord = 10
-- "Does the log begin and end at level 0?"
number_of no.NotWhole = 11
-- "Does the result fit the lent buffer?"
number_of no.BufferTooShort = 12
-- L1: "when the first depth is not 0, a later one is 0, or a depth is more than one above the line before it"
number_of no.NotNested = 13
-- L5: "when n is outside 1 to 8"
number_of no.OpenedCount = 14
-- L6: "when the bytes are no run"
number_of no.NotARun = 15
-- L6: "for modes 2 and 5"
number_of no.NoWayBack = 16
-- L6: "when y is beyond ±10^14 in mode 1 or outside 0 to 2^32 - 1 in mode 4"
number_of no.OuterFigure = 17
-- L9: "when the page starts past the last record"
number_of no.NoSuchPage = 18
-- L10: "when either number is not below the opened count"
number_of no.NoSuchRecord = 19
-- L11: "for a farm above 7"
number_of no.NoSuchFarm = 20
-- L11: "when the farms' excess over 10,000 would then add to more than 20,000"
number_of no.CommonStock = 21

-- What a call answers: its result, or the number of the question that got a "no". "A 'no' returns the number".
abbrev pub answered : {A : Type 0} → Result A Refusal → Outcome A
answered (Ok a) = granted a
answered (Err r) = refused (number_of r)

-- What is answered of bytes that are written: their number. "A 'yes' to all writes exactly the result and, where that is bytes, answers its length".
abbrev pub length_answered : Outcome (List ℕ) → Outcome ℕ
length_answered (refused n) = refused n
length_answered (granted w) = granted (length w)
