pub mod Constants
pub mod Expressions
pub mod Faults
pub mod Indexed
pub mod Kinds
pub mod Rule
pub mod Scopes
pub mod Values
