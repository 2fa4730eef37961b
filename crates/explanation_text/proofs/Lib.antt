pub mod OrderLaws
pub mod WaitsLemmas
