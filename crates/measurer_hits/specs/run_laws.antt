pub mod Alike
pub mod Ends
pub mod Laws
pub mod Leaving
pub mod Traces
