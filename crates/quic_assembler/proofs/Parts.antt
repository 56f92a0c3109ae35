-- Parts that wait, step by step.
pub mod Steps
pub mod Filled
pub mod Gaps
pub mod Skipped
pub mod Free
pub mod Undone
pub mod Last
pub mod Joining
pub mod Copying
pub mod Rows
