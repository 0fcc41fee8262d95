pub mod Accepted
pub mod Agreement
pub mod Determined
pub mod Printed
pub mod Remeasured
pub mod Unreachable
