pub mod Names
pub mod Recordings
pub mod Replayings
pub mod Requirements
pub mod Tasks
pub mod inside
