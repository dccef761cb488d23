-- Definitions: the runs, the work along the plan, the gate of a row, and the runs by the records of a log.
pub mod Runs
pub mod Work
pub mod Gate
pub mod RunsByRecords
-- Rows computed, and the definitions' clauses.
pub mod WorkLaws
-- What is asked of the summaries of a row; of such a row the gate finds the fault that finishing the merged row answers.
pub mod Fair
-- Each line has its run.
pub mod RunsExact
-- How large the figures get that the work along the plan goes through.
pub mod WorkSizes
