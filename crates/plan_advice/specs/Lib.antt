pub mod Advices
pub mod Costs
pub mod Cuttings
pub mod inside
