pub mod Fitting
pub mod JsonLaws
pub mod LineLaws
pub mod Numbers
pub mod PartLaws
