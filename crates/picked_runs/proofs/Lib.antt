pub mod Pairing
pub mod Grown
mod Fits
pub mod Narrowing
mod Mates
pub mod Probes
pub mod Places
mod Completions
mod Answers
pub mod Making
pub mod Firsts
mod Fixing
mod Turning
pub mod Numbering
pub mod Allowing
mod Bounded
pub mod GoingOn
pub mod Padding
mod PickExamples
