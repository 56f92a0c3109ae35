-- How an end asks its peer how often to acknowledge.
pub mod Asks
pub mod Drafts
pub mod Only
pub mod Group
pub mod Clause
