pub mod Listed
pub mod Going
