pub mod Bodies
pub mod Calling
pub mod Law
pub mod Units
pub mod Happens
