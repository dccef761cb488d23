-- The theorems on the definitions in specs/, and what they are proved with.
-- Each number names one record; what a log without fault is by places.
pub mod NumberLaws
pub mod Formed
-- There is exactly one line, and it is the one computed.
pub mod GreatestLaws
pub mod ChainLaws
pub mod LineLaws
-- What a pass over the log keeps, where it ends, and the figure that it has at a close.
pub mod StackLaws
pub mod OpenNumbers
pub mod CloseFigure
-- What the call comes to.
pub mod CallLaws
pub mod Examples
