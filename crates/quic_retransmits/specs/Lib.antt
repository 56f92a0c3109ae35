pub mod Retransmits
pub mod RetireCode
pub mod Kept
pub mod Lending
pub mod Lone
