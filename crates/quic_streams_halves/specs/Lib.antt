pub mod Halves
pub mod Queued
