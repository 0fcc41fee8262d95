pub mod cfa_order
pub mod graph_of
pub mod graph_rules
