pub mod Bits
pub mod Consequences
pub mod Fitting
pub mod Machine
pub mod Quotients
pub mod Ranks
pub mod Residues
pub mod Sums
