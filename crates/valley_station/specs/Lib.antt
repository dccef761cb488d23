-- Definitions that a reader must believe: what a station holds and its calls come to; its state as bytes; runs of calls, and what is claimed of them.
pub mod Station
pub mod State
pub mod Runs
pub mod Claims
