-- What the bytes of a chunk say; and what a contract says with it.
pub mod Chunk
pub mod Laws
