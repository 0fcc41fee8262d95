pub mod Truth
pub mod Names
pub mod GateLaws
pub mod Lines
pub mod Gifts
