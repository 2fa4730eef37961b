pub mod Joining
pub mod Refining
pub mod Regrouping
