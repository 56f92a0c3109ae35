pub mod Showing
pub mod Making
mod Kept
