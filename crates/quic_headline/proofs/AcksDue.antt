-- ACK frames that are due at once: the next poll gives one.
pub mod Rules
pub mod Gaps
pub mod Urging
pub mod Arrivals
pub mod Marked
pub mod Waits
pub mod Group
pub mod Clause
