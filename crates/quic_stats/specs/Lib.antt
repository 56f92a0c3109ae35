pub mod Printing
pub mod Stats
