-- Ends that rest: nothing of theirs waits, what they wrote has arrived, and they owe no
-- acknowledgement.
pub mod Between
pub mod Sizes
pub mod Quiet
pub mod Delivered
pub mod SizesCame
pub mod Control
pub mod Awaited
pub mod Reached
pub mod Standing
pub mod Unanswered
pub mod Owed
