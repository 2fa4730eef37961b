pub mod Sums
pub mod Growth
pub mod Accounts
pub mod Keeps
pub mod Tokens
pub mod Seats
pub mod Callers
