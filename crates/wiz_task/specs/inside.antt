-- What the inner steps of commands answer, by subjects.
pub mod Ends
pub mod Recording
pub mod Refusals
pub mod Replaying
