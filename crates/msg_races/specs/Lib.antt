pub mod Names
pub mod Races
pub mod Ways
pub mod Listing
pub mod inside
