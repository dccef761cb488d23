-- Definitions that a reader must believe, in reading order: the bytes of a summary; which bytes are one; what they say; the test that the code computes;
-- what the calls come to.
pub mod Layout
pub mod Judge
pub mod Decode
pub mod Decide
pub mod Outcomes
-- From summaries to bytes and back: bytes are a summary exactly where they stand for an accepted one.
pub mod Accepted
