pub mod Tallies
pub mod Levels
pub mod InUse
