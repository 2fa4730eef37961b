-- What only the crate's own functions cite, by subjects.
pub mod Probes
pub mod RaceFlags
