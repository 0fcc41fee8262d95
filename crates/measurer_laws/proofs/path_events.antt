pub mod Edges
pub mod Moves
pub mod Records
