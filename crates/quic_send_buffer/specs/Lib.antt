pub mod Buffered
pub mod BufferedHistory
pub mod KeptBytes
pub mod Row
pub mod Source
pub mod Stretch
pub mod WritesLaws
