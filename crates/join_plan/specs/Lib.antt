-- The join plan. What it is: Plan (from levels) and ByRecords (by records), definitions only.
-- What is proved of it, in proofs/: PlanOfLog, for logs; PlanExact and Gate, for every row; worked cases are in Examples.
pub mod Plan
pub mod ByRecords
-- a scan with a running minimum, which a loop computes, gives the plan; so the plan has a line for each join and no other, in order
pub mod Scan
pub mod Joins
-- at most 2 P - 3 lines, for every row that the gate lets through; the levels folded, from the levels of a row
pub mod Gate
