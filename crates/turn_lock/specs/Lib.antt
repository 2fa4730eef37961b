pub mod Entries
pub mod Seat
pub mod Rule
pub mod Steps
pub mod Rests
pub mod Seats
pub mod inside
