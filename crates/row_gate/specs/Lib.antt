-- What questions 4 to 11 find: Told, Notes and Asks, definitions only. The rest is proved of them.
pub mod Told
pub mod Notes
pub mod Asks
pub mod ToldLaws
pub mod NotesLaws
pub mod RowLaws
pub mod AsksLaws
