pub mod Groups
pub mod Shared
pub mod Made
pub mod MarkBounds
pub mod ReplyBounds
pub mod LogBounds
