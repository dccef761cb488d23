-- The laws of the call on two, one for each way through it.
pub mod CallLaws
