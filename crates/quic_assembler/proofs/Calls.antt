-- What the calls of an assembler leave.
pub mod Begins
pub mod Inserted
pub mod Inserting
pub mod Taken
pub mod Kept
pub mod OneStep
pub mod Reading
