pub mod Trees
pub mod Units
