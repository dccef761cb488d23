-- What the functions of `merge_row` ask and leave; then the laws, one for each way through a function.
pub mod RowAsks
pub mod FrontLaws
pub mod CallLaws
pub mod RowLaws
