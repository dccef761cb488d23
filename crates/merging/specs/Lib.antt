-- What the functions of `merging` ask and leave; then the laws, one for each way through a function.
pub mod Side
pub mod Asks
pub mod SayLaws
pub mod KeptLaws
