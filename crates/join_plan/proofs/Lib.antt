-- The theorems on the definitions in specs/, and what they are proved with.
pub mod Examples
pub mod PlanOfLog
-- a scan with a running minimum, which a loop computes, gives the plan; so the plan has a line for each join and no other, in order
pub mod ScanExact
pub mod RowLevels
pub mod PlanFacts
pub mod PlanExact
-- at most 2 P - 3 lines, for every row that the gate lets through; the levels folded, from the levels of a row
pub mod PlanBound
pub mod Gate
pub mod Folded
-- logs: the levels of records and chunks, the joins by records, the plan, what it folds, its last line
pub mod LogLevels
pub mod LogJoins
pub mod LogPlan
pub mod LogFolded
pub mod LogEnds
