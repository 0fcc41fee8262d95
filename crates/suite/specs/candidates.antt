pub mod Row
pub mod Standing
pub mod Within
