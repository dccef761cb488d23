-- What a fault means, and laws of it.
pub mod Fault
pub mod Laws
