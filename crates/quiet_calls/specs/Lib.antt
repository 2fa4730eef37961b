pub mod Quiet
pub mod Closure
