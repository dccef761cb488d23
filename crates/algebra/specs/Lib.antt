pub mod Algebra
pub mod Run
pub mod Sizes
