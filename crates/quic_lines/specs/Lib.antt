pub mod ExitStatus
pub mod Named
pub mod Language
pub mod Options
pub mod Printed
pub mod LineByLine
pub mod Reading
pub mod Refusals
