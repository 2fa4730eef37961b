pub mod Misfits
pub mod WalkRules
pub mod ArgumentRules
pub mod Rows
pub mod CallRules
pub mod SpelledFormats
