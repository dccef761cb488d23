-- The operations of the four modes, how a figure is stored, and the numbers of their runs. Definitions only.
pub mod FourModes
pub mod ModeLaws
pub mod Run
pub mod Runs
pub mod RunUnique
pub mod Bound
pub mod StoreLaws
