pub mod Inputs
pub mod Json
pub mod Laws
pub mod Lines
pub mod Outcome
pub mod Printed
