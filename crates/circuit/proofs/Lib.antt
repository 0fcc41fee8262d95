pub mod Gates
pub mod GateEquality
pub mod Conjunctions
