pub mod JsonTexts
pub mod Laws
