pub mod Shown
pub mod Policies
pub mod Scripts
pub mod LongLines
pub mod Stages
pub mod Outcomes
pub mod Opened
pub mod Erased
