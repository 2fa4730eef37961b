pub mod CellLaws
pub mod CompletionLaws
pub mod MoreReplies
