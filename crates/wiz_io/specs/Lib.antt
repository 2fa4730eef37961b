pub mod Calls
pub mod FileTable
pub mod Files
pub mod Host
pub mod Memory
pub mod Output
pub mod Sure
