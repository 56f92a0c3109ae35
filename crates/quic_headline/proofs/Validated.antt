-- What validates the address of an end's peer.
pub mod Standing
pub mod Went
pub mod Group
pub mod Asking
pub mod Clause
pub mod Own
pub mod Due
pub mod Goes
