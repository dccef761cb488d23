-- What must be believed: Answers. Stores and Contracts say what the inner functions ask and answer. The rest is proved of them.
pub mod Answers
pub mod Stores
pub mod Promised
pub mod LineLaws
pub mod RowLaws
pub mod GivenLaws
pub mod LinesLaws
pub mod CallLaws
