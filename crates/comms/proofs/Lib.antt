pub mod ColourLemmas
pub mod CommsLemmas
pub mod NumberLemmas
