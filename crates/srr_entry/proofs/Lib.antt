pub mod EntryPlaces
pub mod KnownLemmas
pub mod MemberLemmas
pub mod Making
pub mod Rising
