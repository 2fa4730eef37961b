pub mod Boards
pub mod Entrants
pub mod Instances
pub mod InstanceTable
