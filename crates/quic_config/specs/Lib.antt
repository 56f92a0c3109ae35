-- The definitions of this crate.
pub mod Configs
pub mod Transport
