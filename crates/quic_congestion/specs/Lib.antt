-- The definitions of this crate.
pub mod Bursts
pub mod BurstsLaw
pub mod Congestion
pub mod NewReno
pub mod NewRenoLaw
pub mod Pacer
pub mod Passing
pub mod Places
pub mod RenoHistory
pub mod Search
pub mod SearchBounds
pub mod SearchLaw
