-- What the functions ask and leave.
pub mod Promised
pub mod Printing
-- The laws of a buffer of lines and of the pass, and what the call comes to.
pub mod RowLaws
pub mod PrintingLaws
pub mod CallLaws
