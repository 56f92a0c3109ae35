-- What is buffered, and what calls make of it.
pub mod Calls
pub mod Places
pub mod History
mod Examples
pub mod Writes
pub mod Frames
