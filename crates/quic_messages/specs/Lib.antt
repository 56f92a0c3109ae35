pub mod Messages
pub mod Sending
pub mod History
