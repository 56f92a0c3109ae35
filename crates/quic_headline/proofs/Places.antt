-- A run and its places: what was told, what holds at each place, and the theorems.
pub mod Told
pub mod Order
pub mod Steps
pub mod Moments
pub mod Parties
pub mod Groups
pub mod Placed
pub mod Lacking
pub mod Coming
pub mod Openings
pub mod Flights
pub mod Newest
pub mod Together
pub mod Everything
pub mod Theorems
pub mod Drawn
