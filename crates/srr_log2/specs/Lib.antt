pub mod Kinds
pub mod EntryBytes
pub mod LogBytes
pub mod Fields
pub mod EntryReading
pub mod Reading
pub mod Formats
pub mod inside
