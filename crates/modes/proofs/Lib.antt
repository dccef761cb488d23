-- The laws of the four operations, and of their runs.
pub mod ModeLaws
pub mod Runs
pub mod RunUnique
pub mod Bound
pub mod StoreLaws
