-- A definition that a reader must believe: what the answer says.
pub mod Answers
-- What the functions ask and promise.
pub mod Promised
-- Slots of a state, and what the farms draw; then the calls.
pub mod SlotLaws
pub mod CallLaws
