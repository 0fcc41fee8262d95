pub mod Bits
pub mod Lengths
pub mod Records
pub mod Taken
pub mod Walk
