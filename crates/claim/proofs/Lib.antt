-- The theorems on the definitions in specs/, and what they are proved with.
pub mod Demand3
pub mod Table
-- The proof: stretches; the cut, and that every list of readable chunks is one; the lines of the plan; one merge and the whole list; what is left says what
-- the log says; the row that summarise writes.
pub mod Stretches
pub mod Cut
pub mod Lines
pub mod Calls
pub mod LogRow
pub mod FirstRow
-- Batches move nothing.
pub mod BatchLaws
-- A drop is taken at its value.
pub mod DropLaws
-- Every way to finish a log leads to one figure.
pub mod FinishingLaws
-- The values along the heaviest line add to its figure, and its faults are those of finish.
pub mod HeaviestSumLaws
-- Short records start from zero; what was read and sent before keeps its meaning; and the figures that do not move.
pub mod ShortRecordLaws
pub mod ReadThenLaws
pub mod SentLaws
pub mod UnmovedLaws
-- Each figure of a sheet is what its record's subtree leads to.
pub mod SheetLaws
-- A farm's day, sent in the chunks of its log, is the log's.
pub mod FarmLaws
-- The theorems on log D, on a short record over a negative sum, and on sheets.
pub mod Examples
pub mod ShortRecordExamples
pub mod SheetExamples
