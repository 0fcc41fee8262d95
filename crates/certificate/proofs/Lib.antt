pub mod ClauseLaws
pub mod HeadLaws
pub mod LineLaws
pub mod NumberLaws
pub mod PairLaws
pub mod ReadLaws
pub mod RowLaws
pub mod WholeLaws
