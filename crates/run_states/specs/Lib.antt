pub mod Futures
pub mod Outcomes
pub mod Moves
pub mod StateLaws
pub mod Keys
pub mod Codes
pub mod inside
