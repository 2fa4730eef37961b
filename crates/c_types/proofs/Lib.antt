pub mod Walks
pub mod Definitions
pub mod Names
pub mod TextHeads
pub mod ParameterLoops
pub mod Functions
pub mod Settled
pub mod Laws
