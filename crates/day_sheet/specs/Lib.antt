-- Definitions that a reader must believe: a line, a page and what the call comes to; what is claimed of them.
pub mod Sheet
pub mod Claims
-- The lines of a log by their records, and the pages.
pub mod PageLaws
