-- What the inner steps of the crate answer.
pub mod Exploring
