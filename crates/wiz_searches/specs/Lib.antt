pub mod Explorations
pub mod inside
