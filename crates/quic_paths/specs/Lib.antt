-- The definitions of this crate.
pub mod InFlight
pub mod Paths
pub mod Responses
pub mod Worked
