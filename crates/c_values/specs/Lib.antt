pub mod Kind
pub mod Operations
pub mod Laws
