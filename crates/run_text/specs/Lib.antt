pub mod CallTexts
pub mod GroupTexts
pub mod RecordTexts
