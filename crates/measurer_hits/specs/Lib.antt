pub mod hits
pub mod run_match
pub mod run_laws
