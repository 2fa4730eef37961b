-- What only the crate's own functions cite, by subjects.
pub mod Found
pub mod Names
