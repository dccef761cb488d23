-- The theorems on the definitions in specs/, and what they are proved with.
-- A line: its length, its columns, and that it reads back.
pub mod LineLaws
-- The lines of a log by their records, and the pages.
pub mod PageLaws
-- What the call comes to.
pub mod CallLaws
