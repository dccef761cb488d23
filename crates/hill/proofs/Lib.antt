-- The theorems on the definitions in specs/, and what they are proved with.
-- The lowest fault; hills built record by record.
pub mod VerdictLaws
pub mod Building
pub mod Growth
pub mod Faults
-- The peak is the lowest level reached.
pub mod Peak
-- Hills built record by record, and merging by levels.
pub mod Slopes
pub mod MergeLaws
pub mod Map
-- A log without fault is one tree, and its figure is the tree's.
pub mod TreeLaws
pub mod Spell
pub mod WellFormed
pub mod FigureLaws
-- Records that carry otherwise what counts the same.
pub mod Alike
-- A log by its levels alone, and by its places.
pub mod Levels
pub mod LogPlaces
-- Sorted lists; held, opened, subtrees and the values of "Summaries" by places.
pub mod SortedLaws
pub mod Places
pub mod HeldPlaces
pub mod Crossings
pub mod ChunkPlaces
pub mod Subtree
-- Summaries: the words and the building form, the homomorphism, associativity.
pub mod Values
pub mod SummaryLaws
pub mod FinishLaws
pub mod RowLaws
pub mod ValidLaws
-- A record's subtree as a log of its own.
pub mod OwnLogLaws
