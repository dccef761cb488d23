-- The theorems on the definitions in specs/, and what they are proved with.
pub mod Examples
pub mod Laws
pub mod RunLaws
pub mod Through
pub mod RunsWritten
