-- What only the crate's own functions cite, by subjects.
pub mod Leaving
pub mod Parts
pub mod Statements
