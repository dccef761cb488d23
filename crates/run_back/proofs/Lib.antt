-- The theorems on the definitions in specs/, and what they are proved with.
-- The test tells which bytes are a run.
pub mod OddLaws
pub mod DecideLaws
-- What a run does is what figure/Run says.
pub mod ForwardLaws
-- The way back leads to y, and nothing else does.
pub mod InverseLaws
pub mod WayLaws
pub mod CallLaws
-- Each run that is written is accepted.
pub mod WrittenLaws
pub mod Examples
