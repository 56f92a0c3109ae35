-- That each message is received at most as often as it was sent, and which messages wait to go.
pub mod Counted
pub mod Kept
pub mod Going
pub mod Coming
pub mod Group
pub mod Clause
pub mod Dropped
pub mod Waiting
pub mod Lists
pub mod Order
pub mod Let
pub mod Unread
pub mod Inbox
