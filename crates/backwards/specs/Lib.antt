-- What the proofs of the code use.
pub mod Laws
