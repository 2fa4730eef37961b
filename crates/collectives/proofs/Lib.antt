pub mod BoardLemmas
pub mod EntrantLemmas
pub mod InstanceLemmas
