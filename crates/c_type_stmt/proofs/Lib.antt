pub mod Walks
pub mod Closed
