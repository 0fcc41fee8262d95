pub mod Stopping
pub mod Flows
pub mod Operands
pub mod Forms
pub mod Cases
pub mod Refusal
