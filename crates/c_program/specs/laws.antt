-- What every course of a program keeps. These are proofs, and stand here because the laws that the program's type has to have
-- (`impl Program`) may cite no lemma of the crate's own proofs.
pub mod Keeping
pub mod GoodLaws
pub mod RangeLaws
pub mod Proper
pub mod ProperEffects
pub mod EffectLaws
pub mod StatementLaws
pub mod ProgramLaws
