pub mod FormLaws
pub mod LineTexts
pub mod NumberLaws
pub mod PartLaws
pub mod ReadLaws
pub mod RunLaws
pub mod SameRuns
pub mod TextLaws
