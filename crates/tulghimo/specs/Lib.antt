-- What the C functions answer and leave in the lent buffers, and that the lengths they answer fit.
pub mod Interface
pub mod Lengths
pub mod TakenLaws
