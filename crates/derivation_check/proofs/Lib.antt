pub mod LineLaws
pub mod NumbersLaws
pub mod PlacesLaws
pub mod StepLaws
