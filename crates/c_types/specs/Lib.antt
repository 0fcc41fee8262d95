pub mod Declarations
pub mod Functions
pub mod Refusal
pub mod Scoped
pub mod Statements
pub mod Units
