pub mod Rounds
pub mod Rest
