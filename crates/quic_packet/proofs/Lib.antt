pub mod Numbers
pub mod Places
pub mod Opening
pub mod Destinations
