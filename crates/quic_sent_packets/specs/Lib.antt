pub mod Packets
pub mod Counts
pub mod Places
