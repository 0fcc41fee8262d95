pub mod temporaries_apart
pub mod expression_laws
pub mod statement_laws
pub mod for_steps
pub mod tree_laws
