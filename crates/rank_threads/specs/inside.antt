-- What only the crate's own functions cite, by subjects.
pub mod Numbered
pub mod Reading
pub mod Readings
pub mod Workers
