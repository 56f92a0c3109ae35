-- That a poll gives what waits, unless window or pacer hold it back.
pub mod Flight
pub mod Silent
pub mod Behind
pub mod Bytes
pub mod Unsent
pub mod Messages
pub mod Clause
pub mod Limited
pub mod Threefold
pub mod Control
pub mod Limits
