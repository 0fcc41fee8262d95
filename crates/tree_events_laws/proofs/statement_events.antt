pub mod Rows
pub mod Assigns
pub mod Arrays
pub mod Switches
pub mod StatementTrees
