-- What the functions of `figure` mean, and laws of these definitions.
pub mod Mode
pub mod Stored
pub mod Examples
