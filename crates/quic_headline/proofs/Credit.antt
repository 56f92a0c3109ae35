-- That an end lets its peer come no further than its windows past what was consumed.
pub mod Sums
pub mod Cases
pub mod Lists
pub mod Counted
pub mod Drafts
pub mod Said
pub mod Clause
pub mod Done
pub mod Counts
