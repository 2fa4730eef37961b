pub mod Communicators
pub mod Colours
