pub mod Holding
pub mod Naming
pub mod Known
pub mod Store
pub mod Giving
