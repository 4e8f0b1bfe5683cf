pub mod Heard
pub mod Checks
