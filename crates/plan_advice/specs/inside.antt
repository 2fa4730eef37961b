-- What only the crate's own functions cite, by subjects.
pub mod Pieces
pub mod Ways
