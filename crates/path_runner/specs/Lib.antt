pub mod Counted
pub mod Fits
pub mod Laws
pub mod Masks
pub mod Paths
