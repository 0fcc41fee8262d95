pub mod expression_events
pub mod statement_events
pub mod event_laws
