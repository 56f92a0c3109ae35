mod RunExamples
pub mod RunLists
pub mod RunEdits
mod ElementSteps
pub mod Joining
mod JoinSteps
pub mod PieceSteps
mod PieceExamples
pub mod Offsets
pub mod Parts
pub mod Outcomes
