pub mod Bodies
pub mod Frames
pub mod Calling
pub mod Law
pub mod Unending
pub mod Units
