pub mod Decimals
pub mod Readings
pub mod Lines
