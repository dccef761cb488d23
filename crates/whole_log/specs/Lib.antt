-- What the gate on a whole log answers; what a pass over records keeps, and the laws of it.
pub mod Gate
pub mod Tallies
pub mod TallyLaws
pub mod Pass
-- What the gate's answer says, and what a pass keeps over a log that was let through.
pub mod AskLaws
pub mod Second
