-- What the functions of `run_level` ask and answer: Levels, definitions only. What a caller cites is proved of them.
pub mod Levels
pub mod Laws
pub mod StandsFor
pub mod Lines
pub mod Along
pub mod AlongLaws
