-- What must be believed: Outcomes (the calls on a row), Day and Line (the day's figures and its line), definitions only. In proofs/ worked cases are in Examples; Laws says what the questions of a row find, Through what they let through,
-- RunLaws how many bytes a run has, RunsWritten that the runs are the paper's.
pub mod Outcomes
pub mod Day
pub mod Line
pub mod Laws
