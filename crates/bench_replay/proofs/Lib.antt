pub mod ReplayableLemmas
