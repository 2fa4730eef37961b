pub mod Assignments
pub mod Declarations
pub mod StmtTyping
