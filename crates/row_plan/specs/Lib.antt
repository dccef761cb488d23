-- What the notes and lines of a row stand for, and what a call that asks 4 to 11 and then writes comes to: Arrays and Wrote, definitions only.
-- The rest is proved of them.
pub mod Arrays
pub mod Wrote
pub mod ScanLaws
pub mod LevelsLaws
pub mod RowLaws
pub mod WroteLaws
pub mod CallLaws
