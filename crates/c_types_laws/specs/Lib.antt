pub mod tree_contents
pub mod typing_laws
pub mod typing_faults
pub mod typing_fits
