pub mod Arrived
pub mod ArrivedHistory
pub mod Inside
pub mod PartRow
pub mod PartSteps
pub mod Waiting
