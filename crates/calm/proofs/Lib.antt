pub mod After
pub mod Answering
pub mod Machines
pub mod Running
pub mod Resting
pub mod Moves
