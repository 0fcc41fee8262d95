pub mod CappedLaws
pub mod SumLaws
pub mod MergeLaws
pub mod PairLaws
