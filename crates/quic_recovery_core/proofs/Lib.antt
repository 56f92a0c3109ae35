pub mod Descending
pub mod DuplicateSteps
pub mod DuplicateShifts
pub mod DuplicateWords
pub mod DuplicateSearch
pub mod DuplicateLaws
mod DuplicateExamples
pub mod AckRunSteps
pub mod AckLaws
pub mod AckCounts
pub mod AckCauses
pub mod FrequencySteps
