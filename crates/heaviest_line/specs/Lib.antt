-- What the functions ask and leave.
pub mod Promised
pub mod Search
pub mod Numbering
-- The laws of the two passes, and what the call comes to.
pub mod SearchLaws
pub mod NumberingLaws
pub mod CallLaws
