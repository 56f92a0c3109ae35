pub mod Rests
pub mod Clause
