pub mod Buffered
pub mod Kept
mod Source
