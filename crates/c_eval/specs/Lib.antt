pub mod Evaluated
pub mod Replies
pub mod Ranks
pub mod inside
