-- What only the crate's own functions cite, by subjects.
pub mod FormatTests
pub mod Making
