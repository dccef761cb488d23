-- Decimal text, and text in columns.
pub mod Decimal
pub mod Columns
