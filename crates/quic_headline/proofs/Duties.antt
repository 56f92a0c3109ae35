-- Where what has to reach the peer is, until it arrives.
pub mod Flies
pub mod InStreams
pub mod Carrier
pub mod Tail
pub mod UnderWay
pub mod Listed
pub mod OfIds
pub mod Lasting
pub mod Limits
pub mod LimitsGo
pub mod Requests
pub mod Halts
pub mod Stopped
pub mod Group
pub mod Ledger
pub mod Clause
