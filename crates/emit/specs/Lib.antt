-- What is asked and left where the bytes of a summary are written, with the laws of that; then the same where a summary is written into a buffer.
pub mod Promised
pub mod Emitted
pub mod WriteLaws
pub mod Laws
