pub mod Comes
pub mod Parts
pub mod Sizes
pub mod SlotView
pub mod Steps
pub mod inside
