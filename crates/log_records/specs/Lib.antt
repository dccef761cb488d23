-- Definitions that a reader must believe: the numbers of records; the line and what the call comes to; what is claimed of it.
pub mod Numbers
pub mod Line
pub mod Claims
-- Each number names one record; what a log without fault is by places.
pub mod Formed
-- What a pass over the log keeps, where it ends, and the figure that it has at a close.
pub mod StackLaws
pub mod OpenNumbers
pub mod CloseFigure
