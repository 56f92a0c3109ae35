pub mod Asking
pub mod Coming
pub mod Rows
