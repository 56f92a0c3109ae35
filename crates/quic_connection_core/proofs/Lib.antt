pub mod Payloads
pub mod Plain
pub mod Asked
pub mod Asking
pub mod Composed
pub mod Polls
pub mod Moved
pub mod Forms
mod Ungiven
pub mod Probing
mod Losses
pub mod Gates
pub mod Items
mod Rooms
pub mod Marks
pub mod Counted
mod Expiries
pub mod Receiving
pub mod Taken
mod Migrated
pub mod Drawn
mod Migrating
mod Made
