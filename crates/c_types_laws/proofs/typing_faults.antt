pub mod Telling
pub mod Expressions
pub mod Declarations
pub mod Statements
pub mod Units
pub mod Lines
pub mod Firsts
