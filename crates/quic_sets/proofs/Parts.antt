-- Parts of a stream, and their bytes.
pub mod First
pub mod Bytes
