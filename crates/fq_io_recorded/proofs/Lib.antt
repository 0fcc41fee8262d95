pub mod Found
pub mod Often
pub mod Read
pub mod Says
pub mod Times
