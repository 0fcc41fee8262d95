pub mod Cone
pub mod Encoding
pub mod Worlds
pub mod Parts
