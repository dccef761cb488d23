-- The theorems on the definitions in specs/, and what they are proved with.
-- A table and its log belong to each other; so do their bytes.
pub mod TableLaws
pub mod LineLaws
pub mod LogLaws
-- What the calls come to: both round trips, the only log, what comes back of any log, and when 13 is answered.
pub mod CallLaws
pub mod RoundTrips
pub mod Examples
