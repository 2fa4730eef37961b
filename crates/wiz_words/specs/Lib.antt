pub mod Forms
pub mod Values
pub mod Words
pub mod Texts
