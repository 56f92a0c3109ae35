pub mod Number
pub mod Keys
pub mod Header
pub mod Datagram
pub mod Destination
