pub mod GreaterLemmas
