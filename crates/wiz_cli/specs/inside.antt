-- What the inner steps of the crate answer, by subjects.
pub mod Ends
pub mod Running
