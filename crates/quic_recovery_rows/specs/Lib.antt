-- The definitions of this crate.
pub mod Arriving
pub mod Bursts
pub mod Given
pub mod OwnIds
pub mod PeerIds
pub mod Probing
pub mod Searches
pub mod Sent
pub mod Tracked
pub mod UsedPaths
