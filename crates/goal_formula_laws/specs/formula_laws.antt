pub mod Bits
pub mod Laws
pub mod Orders
pub mod Units
