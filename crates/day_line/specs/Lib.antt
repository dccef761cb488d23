-- The line that the day program prints.
pub mod LineLaws
pub mod Examples
