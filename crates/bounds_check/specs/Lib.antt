pub mod Bounded
pub mod Laws
pub mod Leaving
pub mod Parts
pub mod Sufficing
