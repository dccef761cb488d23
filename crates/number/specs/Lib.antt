-- What the functions of `number` mean, and laws of these definitions.
pub mod Bytes
pub mod Laws
pub mod FieldLaws
pub mod Writing
pub mod Integer
pub mod IntegerLaws
pub mod Modulo
pub mod Word
