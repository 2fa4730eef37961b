-- What only the crate's own functions cite.
pub mod Seen
pub mod Settled
