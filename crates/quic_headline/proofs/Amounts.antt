-- How much a write takes: what an end knows of its limits, of what it accepted and of what it keeps
-- is what a run's lists say.
pub mod Pieces
pub mod Tally
pub mod Accepts
pub mod Frames
pub mod Group
pub mod Kept
pub mod Opens
pub mod NewIds
pub mod Clause
pub mod Blocked
pub mod PeerLimits
pub mod Opening
pub mod InOrder
pub mod Stopped
pub mod Closed
pub mod Buffers
