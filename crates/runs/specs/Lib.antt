-- The runs of a row's lines, in bytes: Runs, definitions only. The rest is proved of them.
pub mod Runs
pub mod BytesLaws
pub mod LoopLaws
pub mod LineLaws
pub mod EachLaws
pub mod CallLaws
