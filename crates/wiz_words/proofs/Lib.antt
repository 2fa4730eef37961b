pub mod FormLemmas
pub mod BreakpointLemmas
pub mod OneCommand
