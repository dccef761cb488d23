-- The theorems on the definitions in specs/, and what they are proved with.
-- The list has just the logs that are wanted, in order: by their records, and by their bytes. No other list has.
pub mod WayLaws
pub mod DayLaws
pub mod Counts
-- What the call comes to.
pub mod CallLaws
pub mod Examples
