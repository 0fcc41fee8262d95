pub mod MarksLaws
pub mod MoreMarks
pub mod BlocksLaws
pub mod PartsLaws
pub mod KeptLaws
pub mod NamesLaws
pub mod TargetLaws
