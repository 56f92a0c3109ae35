-- A write of an end that rests is blocked only for bytes that the reader left unread: what that
-- rests on.
pub mod Walk
pub mod Newest
pub mod Written
pub mod Half
pub mod Consumed
pub mod Taken
pub mod Group
pub mod Least
pub mod Places
pub mod Exchange
pub mod Resting
pub mod Blocked
pub mod Clause
pub mod Heeded
-- No stream can be opened only for streams that the peer isn't done with: what that rests on.
pub mod OpeningPlaces
pub mod OpeningDone
pub mod OpeningOwn
pub mod OpeningLasts
pub mod OpeningStatus
pub mod OpeningRead
pub mod OpeningIds
pub mod OpeningResets
pub mod OpeningRest
pub mod OpeningClause
