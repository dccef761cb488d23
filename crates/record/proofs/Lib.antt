-- The theorems on the definitions in specs/, and what they are proved with.
pub mod Laws
pub mod Readable
pub mod RangeLaws
pub mod Joined
pub mod Ranged
pub mod Handed
pub mod Encoding
pub mod Examples
