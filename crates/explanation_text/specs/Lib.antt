pub mod AdviceTexts
pub mod DiffTexts
pub mod OrderTexts
pub mod RacesTexts
pub mod WaitsTexts
