pub mod FoldLemmas
pub mod InputLemmas
pub mod MadeLemmas
pub mod MemberLemmas
pub mod NeedsLemmas
pub mod ResultLemmas
mod Rows
pub mod SortLemmas
pub mod SplitLemmas
