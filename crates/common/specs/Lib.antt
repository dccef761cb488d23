-- What the pass keeps, and its laws.
pub mod Walk
pub mod WalkLaws
-- What the two numbers come to.
pub mod CallLaws
