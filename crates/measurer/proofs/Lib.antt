pub mod Words
pub mod WordOpenings
pub mod FirstPlaces
pub mod Gathered
pub mod KnownHits
pub mod Matchers
pub mod FirstRuns
pub mod Noting
