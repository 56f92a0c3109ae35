pub mod Plain
pub mod PlainLaw
pub mod KeysOf
pub mod Words
pub mod Policies
