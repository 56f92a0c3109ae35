pub mod Counting
pub mod Ranges
pub mod Joined
pub mod Numbered
pub mod Scanning
pub mod Looked
pub mod Ends
