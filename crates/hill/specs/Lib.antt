-- Definitions that a reader must believe, in reading order: the questions and "the lowest"; records, levels and faults; sorted lists; who closes and who
-- holds whom; the questions by places; trees and the recursion; a record's figure, and its subtree as a log of its own; a chunk's summary; merging; finishing;
-- rows; accepted summaries.
pub mod Verdict
pub mod Log
pub mod Sorted
pub mod Closing
pub mod Questions
pub mod Tree
pub mod Figure
pub mod OwnLog
pub mod Summary
pub mod Merge
pub mod Finish
pub mod Row
pub mod Valid
-- Hills built record by record.
pub mod Building
-- Places of a log, and what is held from one on.
pub mod Places
pub mod HeldPlaces
pub mod Crossings
