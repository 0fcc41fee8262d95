pub mod Steps
pub mod Hitting
pub mod Bits
pub mod Forms
pub mod Sizes
pub mod Exact
pub mod Laws
pub mod Parts
