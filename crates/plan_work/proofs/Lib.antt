-- The theorems on the definitions in specs/, and what they are proved with.
-- Rows computed, and the definitions' clauses.
pub mod Examples
pub mod WorkLaws
-- What is asked of the summaries of a row; of such a row the gate finds the fault that finishing the merged row answers.
pub mod GateExact
-- The merge of a row, level by level, and the row and its plan so read.
pub mod Fold
pub mod Stack
pub mod Merged
pub mod RowLevels
-- The work along the plan gives what finishing the merged row answers; for a cut log, the recursion's figure.
pub mod Invariant
pub mod WorkExact
pub mod LogWork
-- Each line has its run.
pub mod RunsExact
-- How large the figures get that the work along the plan goes through.
pub mod WorkSizes
-- The run of a line is the figure of its lowest-depth record as a function of x.
pub mod ChunkFigures
pub mod PlaceLists
pub mod CutFigure
pub mod RunOfLog
