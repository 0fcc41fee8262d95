pub mod Walks
pub mod Numbers
pub mod Order
pub mod Groups
pub mod Tables
pub mod Places
pub mod Tests
