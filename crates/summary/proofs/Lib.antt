-- The theorems on the definitions in specs/, and what they are proved with.
-- Question 5 by the mode's figures, and by the hill that bytes say.
pub mod Tests
pub mod ModeValues
pub mod Values
pub mod Hills
-- From summaries to bytes and back: bytes are a summary exactly where they stand for an accepted one.
pub mod ReadBack
pub mod Written
pub mod WriteBack
pub mod Accepted
pub mod DecideLaws
-- The calls on bytes.
pub mod MergeBytes
pub mod OutcomeLaws
pub mod FinishBytes
pub mod Examples
