-- The definitions of this crate.
pub mod CidQueue
pub mod CidState
