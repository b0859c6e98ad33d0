pub mod Kept
pub mod Tallied
