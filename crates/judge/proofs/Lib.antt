-- Laws that the proofs of the functions share.
mod Loops
mod Values
mod Parts
