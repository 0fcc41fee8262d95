pub mod table_laws
pub mod covered_laws
pub mod path_events
