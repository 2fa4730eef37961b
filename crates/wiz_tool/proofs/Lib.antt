pub mod FileLemmas
pub mod FileNames
pub mod FinishLemmas
pub mod MessageLemmas
pub mod ResultLemmas
pub mod TellLemmas
