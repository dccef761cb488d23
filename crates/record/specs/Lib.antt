-- What must be believed. What is proved of it stands in proofs/.
pub mod Record
