-- What only the crate's own functions cite, by subjects.
pub mod Alike
pub mod Marked
pub mod Marking
pub mod Marks
