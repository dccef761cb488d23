-- What the functions of `codec` ask and leave; then the laws.
pub mod Promised
pub mod LoadLaws
pub mod CloseLaws
