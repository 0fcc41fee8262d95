pub mod MarksLaws
pub mod PivotLaws
pub mod PlacesLaws
