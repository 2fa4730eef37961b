mod ChainLaws
pub mod Lists
mod NamedLaws
pub mod PartLaws
mod PrintLaws
pub mod StateLaws
