pub mod WorkedExamples
pub mod Filled
pub mod Answers
pub mod Confluence
pub mod Fillings
pub mod ShapedFits
pub mod Unbroken
pub mod Prefix
pub mod RunAnswers
pub mod MissingLemmas
pub mod NumberLemmas
pub mod Cut
pub mod Starved
pub mod Free
mod TestedRuns
mod TablePrograms
mod LateRuns
mod LateReplays
