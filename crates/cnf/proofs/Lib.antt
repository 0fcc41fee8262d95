pub mod ChecksLaws
pub mod ClauseLaws
pub mod ResolutionLaws
pub mod NumbersLaws
