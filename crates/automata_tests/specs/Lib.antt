pub mod Described
pub mod Worlds
