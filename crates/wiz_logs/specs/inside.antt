-- What the inner steps of the crate answer, by subjects.
pub mod Comparing
pub mod Regrouping
pub mod Replaying
pub mod Viewing
