pub mod boxed
pub mod vector
