pub mod Apart
pub mod EndLemmas
pub mod InputLemmas
pub mod LogLemmas
pub mod RunLemmas
pub mod ShowLemmas
