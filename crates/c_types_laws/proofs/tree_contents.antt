pub mod WrittenKinds
pub mod Tokens
pub mod Expressions
pub mod Statements
pub mod Items
pub mod Texts
