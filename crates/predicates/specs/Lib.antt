pub mod Reading
pub mod Typing
pub mod Narrowing
pub mod Outcome
pub mod Laws
