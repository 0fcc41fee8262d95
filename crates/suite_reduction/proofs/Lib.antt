pub mod Irredundant
pub mod MarksLaws
pub mod SuiteLaws
