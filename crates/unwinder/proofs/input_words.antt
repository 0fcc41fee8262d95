pub mod GateLemmas
pub mod InputLemmas
pub mod ListLemmas
pub mod MadeLemmas
pub mod WordLemmas
pub mod WorldLemmas
