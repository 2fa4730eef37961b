pub mod DecimalLaws
pub mod FillLemmas
pub mod LineLaws
pub mod ReadingLaws
pub mod ReadingLemmas
