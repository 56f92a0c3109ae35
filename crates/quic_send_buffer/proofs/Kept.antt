-- The bytes that are kept, piece by piece.
pub mod Order
pub mod Pieces
pub mod Queue
pub mod Ranges
pub mod Runs
pub mod Several
pub mod Stretches
