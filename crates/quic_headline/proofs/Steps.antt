-- What single calls do: the timer of the pacer, the window that a controller shows, and what polls
-- give that asks.
pub mod Made
pub mod Along
pub mod Pacing
pub mod Windows
pub mod Moved
pub mod Probes
pub mod Passing
pub mod Idle
pub mod Probing
pub mod Asking
pub mod Sized
pub mod Resized
pub mod Called
