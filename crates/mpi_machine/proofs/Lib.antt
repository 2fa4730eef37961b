pub mod Answering
pub mod Attempting
pub mod Beginning
pub mod Completing
pub mod Counting
pub mod Entering
pub mod Needed
pub mod Growing
pub mod Moving
pub mod Probing
pub mod WaitingAgain
pub mod Roomy
pub mod Serially
pub mod Standing
pub mod Waiting
pub mod WaitingRanks
mod Written
mod Picking
mod Indexing
