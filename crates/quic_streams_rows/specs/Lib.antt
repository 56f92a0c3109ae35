pub mod Assembler
pub mod SendBuffer
pub mod Sources
pub mod Messages
pub mod Handles
pub mod Limits
