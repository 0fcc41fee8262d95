pub mod Certificates
pub mod Differences
pub mod Numbers
pub mod Reading
pub mod Refusals
