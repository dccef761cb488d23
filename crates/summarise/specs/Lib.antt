-- What the functions of a pass over a chunk ask and leave, and their laws.
pub mod Scans
pub mod ScanLaws
pub mod AnsweredLaws
pub mod CallLaws
