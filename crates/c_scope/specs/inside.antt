-- What only the crate's own functions cite, by subjects.
pub mod Innermost
pub mod ScopeView
