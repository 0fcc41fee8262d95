pub mod Matches
pub mod Recorded
pub mod Taken
pub mod LaterMatches
