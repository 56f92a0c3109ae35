-- Calls on a stream are answered that it is closed only where nothing more is left to do: what that
-- rests on.
pub mod Halves
pub mod Reads
pub mod Writes
pub mod Over
pub mod Blocked
pub mod Lacking
