pub mod Flat
pub mod Faults
pub mod Blank
