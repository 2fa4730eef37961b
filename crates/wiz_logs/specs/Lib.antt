pub mod Comparisons
pub mod Logs
pub mod Regroupings
pub mod Views
pub mod inside
