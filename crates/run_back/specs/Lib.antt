-- Definitions that a reader must believe: which bytes are a run; what the call comes to, and what is claimed of it.
pub mod Judge
pub mod Decide
pub mod Inverse
pub mod Backwards
pub mod Claims
