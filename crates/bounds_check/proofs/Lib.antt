pub mod Cutting
pub mod Exactness
pub mod Lefts
pub mod Opening
pub mod Reading
pub mod Short
