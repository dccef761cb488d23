-- What the functions of `slopes` mean, and laws of these definitions.
pub mod Arrays
pub mod Actions
pub mod Kept
pub mod Steps
pub mod Laws
-- A log's records so far, in one mode.
pub mod Rising
