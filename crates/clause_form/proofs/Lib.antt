pub mod ClauseLaws
pub mod ConeLaws
pub mod NumberLaws
pub mod TruthLaws
pub mod WorldLaws
