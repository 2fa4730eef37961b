pub mod Operands
pub mod Calls
pub mod Shapes
pub mod ExprTyping
pub mod MpiTyping
pub mod CallTyping
pub mod inside
