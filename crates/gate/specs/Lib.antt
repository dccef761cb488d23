-- What a call comes to, and what its answer says; and the two promises of a call that writes.
pub mod Outcome
pub mod Answers
pub mod Promises
