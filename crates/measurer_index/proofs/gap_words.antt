pub mod Going
pub mod Starts
pub mod Begins
pub mod Gaps
pub mod Spelled
