-- Sets of offsets: as runs in an ordered map, and as lists of runs.
pub mod Spans
pub mod Loose
pub mod LooseSteps
pub mod Last
pub mod OffsetSet
pub mod OffsetCalls
pub mod Edits
pub mod Undone
pub mod Prefix
pub mod Latest
