pub mod Firsts
pub mod Noted
pub mod Openings
pub mod Measured
pub mod Known
pub mod Measurers
