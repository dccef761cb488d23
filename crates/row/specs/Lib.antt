-- What must be believed: Row. The rest is proved of it.
pub mod Row
pub mod Laws
