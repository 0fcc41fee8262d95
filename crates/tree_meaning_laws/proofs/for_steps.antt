pub mod Derived
pub mod Typed
