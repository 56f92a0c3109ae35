-- The definitions of this crate.
pub mod Clocks
pub mod Printing
pub mod Rtt
pub mod Timers
pub mod TimerSlots
