pub mod Flags
pub mod Alive
pub mod Pings
pub mod Drafts
pub mod Group
pub mod Urged
pub mod Timers
pub mod Clause
