pub mod Script
pub mod ScriptLaws
pub mod Logs
pub mod Words
