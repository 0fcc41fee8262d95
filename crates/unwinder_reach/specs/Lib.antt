pub mod reached
pub mod unwinding_size
pub mod reached_laws
