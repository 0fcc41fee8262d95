pub mod Asked
pub mod Asking
pub mod Exits
pub mod Short
pub mod Stays
