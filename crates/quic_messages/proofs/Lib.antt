pub mod Fronts
pub mod Leaving
pub mod Unread
pub mod Turning
pub mod Longest
pub mod Counting
