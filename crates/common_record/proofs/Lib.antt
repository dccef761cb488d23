-- The theorems on the definitions in specs/, and what they are proved with.
-- What it is to be or to hold a record, in three ways that are the same on a well-formed log.
pub mod HoldingLaws
pub mod HoldingWays
-- There is exactly one record in common, and it is the one computed.
pub mod CommonLaws
-- What the call comes to.
pub mod CallLaws
pub mod Examples
