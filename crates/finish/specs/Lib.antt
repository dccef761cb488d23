-- What finish comes to, by the head of the summary.
pub mod Laws
