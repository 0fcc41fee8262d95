pub mod Builder
pub mod Edges
pub mod Expressions
pub mod Statements
pub mod Switch
pub mod Table
pub mod GraphOf
pub mod Laws
