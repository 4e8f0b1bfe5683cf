pub mod Rounds
pub mod Rest
pub mod Listed
pub mod Example
pub mod Sooner
pub mod Unknown
