mod Flows
mod Values
mod Rows
pub mod Whole
