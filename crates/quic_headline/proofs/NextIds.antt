-- The next id of the peer: which one a call changes to, and when there is none.
pub mod Peer
pub mod Asking
pub mod Coming
pub mod Group
pub mod Used
pub mod Clause
pub mod Stays
