-- The theorems on the definitions in specs/, and what they are proved with.
-- What a run keeps.
pub mod StationLaws
pub mod RunLaws
-- The bytes of a state say the station, and follow it through a run.
pub mod StateLaws
-- The claims.
pub mod TwoRuns
pub mod ClaimLaws
pub mod Examples
