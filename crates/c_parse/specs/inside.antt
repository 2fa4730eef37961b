-- What only the crate's own functions cite, by subjects.
pub mod Blocks
pub mod Classes
pub mod Declarations
pub mod Gives
pub mod Locating
pub mod StatementHeads
