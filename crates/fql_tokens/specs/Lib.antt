pub mod Accepted
pub mod Bytes
pub mod Cuts
pub mod First
pub mod Limits
pub mod Outcome
pub mod Spelling
