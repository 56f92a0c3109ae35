-- What the controller of an end is told, against what its observer knows: where datagrams are lost
-- and acknowledged, where packets come, at each call, and over a run.
pub mod Losses
pub mod Asked
pub mod Acks
pub mod Frames
pub mod Strays
pub mod Shown
pub mod Hearing
pub mod First
pub mod Calls
pub mod Clause
pub mod Reno
