pub mod Terminals
pub mod Parsing
pub mod inside
