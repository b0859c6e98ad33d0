pub mod Whole
pub mod Faults
pub mod Drawn
pub mod Kept
