mod Fractions
mod Histories
mod Windows
mod RenoHistories
mod PacerExamples
pub mod PacerLaws
pub mod PacerWaits
pub mod PacerRate
pub mod Places
pub mod SearchSizes
pub mod NamedSizes
pub mod NoProbes
pub mod KeptBursts
pub mod SearchBetween
pub mod SizedSearch
