pub mod Fits
pub mod Filling
pub mod Breaks
pub mod Replays
pub mod Stands
pub mod Rests
pub mod FreeSteps
pub mod Laws
