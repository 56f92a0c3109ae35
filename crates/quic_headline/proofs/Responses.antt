-- How an end answers challenges.
pub mod Drafts
pub mod Waiting
pub mod Answering
pub mod Fill
pub mod Clause
