pub mod Refusals
pub mod Circuit
pub mod Theorems
pub mod Rows
