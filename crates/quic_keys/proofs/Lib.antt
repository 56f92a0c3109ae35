pub mod InPlace
pub mod Mates
pub mod Constant
