pub mod FormatLaws
pub mod Sharing
pub mod Spelling
pub mod StmtViewed
pub mod Viewed
