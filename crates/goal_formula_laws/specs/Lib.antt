pub mod formula_laws
pub mod unwound_laws
