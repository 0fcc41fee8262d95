pub mod Written
pub mod Cutting
pub mod Digits
pub mod OutcomeLaws
pub mod Sizes
