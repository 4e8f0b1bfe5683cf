pub mod Real
pub mod Telling
pub mod Now
pub mod Moves
