-- What is said and told of the end of the handshake.
pub mod Kept
pub mod Group
pub mod Clause
