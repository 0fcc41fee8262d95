pub mod ending_laws
pub mod asked_ends
pub mod plain_returns
pub mod tree_ending_laws
