-- What only the crate's own functions cite, by subjects.
pub mod Completions
pub mod Seen
