-- What only the crate's own functions cite, by subjects.
pub mod Collectives
pub mod IndexedHistory
pub mod Kept
