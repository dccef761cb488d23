-- Definitions that a reader must believe: a log and the lines of its table; their bytes, and what the two calls come to; what is claimed of them.
pub mod Table
pub mod Outcomes
pub mod Claims
-- What the calls come to: both round trips, the only log, what comes back of any log, and when 13 is answered.
pub mod CallLaws
