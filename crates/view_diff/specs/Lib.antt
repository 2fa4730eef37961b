pub mod Bare
pub mod Partings
pub mod Firsts
pub mod Compared
pub mod Laws
pub mod Comparing
pub mod Opens
pub mod inside
