pub mod Language
pub mod Printed
pub mod Peer
pub mod LongLines
pub mod Stages
pub mod Outcomes
