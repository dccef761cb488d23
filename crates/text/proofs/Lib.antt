-- The theorems on the definitions in specs/, and what they are proved with.
pub mod DecimalLaws
pub mod ColumnLaws
pub mod Loops
pub mod Magnitude
