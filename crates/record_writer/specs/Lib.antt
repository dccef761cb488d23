-- Laws of the stores.
pub mod StoreLaws
