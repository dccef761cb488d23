-- What the functions inside ask; laws of the table of ways, of the loops, and of the call.
pub mod Promised
pub mod WaysTable
pub mod LoopLaws
pub mod CallLaws
