-- What the functions inside ask, and laws of the stores, of the loops and of the calls.
pub mod Promised
pub mod StoreLaws
pub mod LoopLaws
pub mod CallLaws
