-- Definitions that a reader must believe: Claim, what demand 3 says; Batches, what is claimed of logs that differ in batches only; Drops, what is claimed of
-- mode 5, in plain numbers, and of mode 3; Finishing, the ways to finish a log; HeaviestSum, what is claimed of the values along the heaviest line and of its
-- faults; ShortRecords, what a short record counts, what is claimed of summaries that were sent while it had another floor, and which figures that floor does
-- not move; Sheets, what is claimed of the figures of a sheet; and Farms, what is claimed of a farm's day. Table has the proved cases of the papers; the theorems stand in proofs/, demand 3 in Demand3.
pub mod Claim
pub mod Batches
pub mod Drops
pub mod Finishing
pub mod HeaviestSum
pub mod ShortRecords
pub mod Sheets
pub mod Farms
pub mod Table
