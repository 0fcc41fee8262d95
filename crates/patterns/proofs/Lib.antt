pub mod Forms
pub mod Capped
pub mod Members
pub mod PlacesLaws
pub mod Rounds
pub mod ByCases
