pub mod Made
pub mod Options
pub mod Reading
pub mod Request
