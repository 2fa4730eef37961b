pub mod Watching
pub mod Snapshots
pub mod Places
pub mod Cuts
pub mod inside
