-- What doesn't open at an end, and what came before, changes nothing there: a run less it is a run
-- again.
pub mod Injected
pub mod Validated
pub mod Counted
pub mod Idle
pub mod Erasing
pub mod Recalling
pub mod Lists
pub mod Agreeing
