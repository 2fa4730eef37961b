pub mod EntryText
pub mod Bounds
pub mod FaultNumbers
pub mod Parts
pub mod LogText
pub mod Faults
pub mod Refused
pub mod inside
