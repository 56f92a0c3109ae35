pub mod Lending
pub mod Told
