pub mod Truth
pub mod Bits
pub mod Wires
pub mod Growth
pub mod Sharing
