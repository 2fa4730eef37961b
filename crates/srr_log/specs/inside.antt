-- How the text of a log is written.
pub mod Written
pub mod EntryReading
pub mod LineReading
pub mod Pieces
pub mod Reading
