-- The definitions of this crate.
pub mod Duplicates
pub mod DuplicateBits
pub mod DuplicateRuns
pub mod PendingAcks
pub mod AckRuns
pub mod AckSteps
pub mod AckFrequency
