-- What has arrived, and what reads gave.
pub mod Bytes
pub mod Claims
pub mod Lawful
pub mod Runs
pub mod WaitingBytes
pub mod Picking
pub mod History
