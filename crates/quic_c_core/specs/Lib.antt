pub mod Answers
pub mod Conn
pub mod Events
pub mod Unread
