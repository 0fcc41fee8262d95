pub mod Laws
pub mod Reaching
pub mod Searching
pub mod Placing
