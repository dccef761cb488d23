-- The bytes of a plan's lines, and what the call comes to. Laws only.
pub mod LinesLaws
pub mod PlanLaws
