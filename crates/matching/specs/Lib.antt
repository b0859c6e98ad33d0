pub mod Orders
pub mod Keys
pub mod Mapped
