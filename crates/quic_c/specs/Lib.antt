pub mod Lending
pub mod Owned
pub mod Says
