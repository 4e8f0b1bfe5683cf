pub mod Standing
pub mod Telling
pub mod Barring
pub mod Responding
pub mod Answering
pub mod Waking
