pub mod Players
pub mod Words
