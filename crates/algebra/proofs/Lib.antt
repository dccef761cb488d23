-- The theorems on the definitions in specs/, and what they are proved with.
pub mod Run
pub mod Sizes
