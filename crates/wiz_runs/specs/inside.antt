-- What the inner steps of the crate answer, by subjects.
pub mod Races
pub mod Recording
