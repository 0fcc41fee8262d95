pub mod Alike
pub mod Eaches
pub mod Ends
pub mod Fitting
pub mod Leaving
pub mod Nexts
pub mod Taken
pub mod Traces
