-- Definitions that a reader must believe: the record that two have in common and what the call comes to; what is claimed of it.
pub mod Common
pub mod Claims
