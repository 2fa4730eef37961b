pub mod PositionLemmas
pub mod Paths
pub mod NewClocks
pub mod TableLemmas
pub mod PartnerLemmas
pub mod JoinLemmas
pub mod Deciding
pub mod Telling
mod LateMates
