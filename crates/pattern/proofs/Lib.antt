pub mod Few
pub mod Covered
pub mod Wholeness
