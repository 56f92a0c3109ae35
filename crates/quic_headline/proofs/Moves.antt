-- Where an end takes its peer to be, by the lists of a run, and what that changes.
pub mod Foreign
pub mod Route
pub mod Clause
pub mod Kept
pub mod Comes
pub mod Changes
