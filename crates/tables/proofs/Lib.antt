pub mod Looks
pub mod Checks
pub mod Clipped
pub mod Nets
