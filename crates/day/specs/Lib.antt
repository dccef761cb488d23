-- That the figures of `figures` are the recursion's, and how the pass over a log goes.
pub mod DayLaws
pub mod Pass
pub mod Loop
