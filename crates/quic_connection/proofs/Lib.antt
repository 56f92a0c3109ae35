pub mod Codes
pub mod OnStreams
pub mod ReadAnswers
pub mod Runs
mod Pairs
pub mod Windows
mod Openings
pub mod Words
pub mod Texts
pub mod Rooms
pub mod Talking
pub mod Lone
pub mod Stopping
