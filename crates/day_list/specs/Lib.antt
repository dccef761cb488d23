-- Definitions that a reader must believe: the list and what the call comes to; what is claimed of the list.
pub mod Days
pub mod Claims
-- The list has just the logs that are wanted, in order: by their records, and by their bytes. No other list has.
pub mod WayLaws
