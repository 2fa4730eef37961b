pub mod Programs
pub mod ProgramTyping
pub mod Checks
pub mod inside
