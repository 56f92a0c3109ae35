-- What the ACK frames of an end name: all that it took, but for what its peer is known to know, and
-- what lies below too many runs. And the marks that they count.
pub mod Crowded
pub mod Frames
pub mod Group
pub mod Clause
pub mod Counted
pub mod Marks
pub mod Marked
pub mod Newest
pub mod Delays
