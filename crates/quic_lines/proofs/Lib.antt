pub mod Sources
pub mod Saying
pub mod Taking
pub mod Running
pub mod Behind
