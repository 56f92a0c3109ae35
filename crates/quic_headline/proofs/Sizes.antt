-- How the size of an end's datagrams moves.
pub mod Search
pub mod Probed
pub mod Apart
pub mod Reckoned
pub mod Asked
pub mod Bursts
pub mod Moving
pub mod Moves
pub mod Walked
pub mod Follows
