pub mod Steps
pub mod Runs
pub mod Numbers
pub mod Workers
pub mod Places
