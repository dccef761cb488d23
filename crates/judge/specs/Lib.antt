-- What must be believed: Judged. Laid says what the inner functions ask; Laws is what a caller cites.
pub mod Judged
pub mod Numbers
pub mod Laid
pub mod Laws
