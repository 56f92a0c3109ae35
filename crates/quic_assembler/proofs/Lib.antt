pub mod Arrived
pub mod Parts
pub mod Calls
