pub mod SearchFiles
pub mod SearchLemmas
