pub mod Cutting
mod Counting
mod Following
mod Looking
mod Reading
pub mod Taken
mod Apart
mod OtherExamples
