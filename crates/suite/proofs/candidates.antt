pub mod StandingLaws
pub mod WithinLaws
