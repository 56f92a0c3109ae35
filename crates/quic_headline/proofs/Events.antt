-- What an application is told of: nothing that is to be told is left out.
pub mod Messages
pub mod Mail
pub mod Openings
pub mod Readables
pub mod Again
pub mod Writables
pub mod Lost
pub mod Available
