pub mod Values
pub mod HeldValues
