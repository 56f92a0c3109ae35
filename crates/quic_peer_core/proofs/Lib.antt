pub mod Saying
pub mod Making
pub mod Behind
mod Coming
