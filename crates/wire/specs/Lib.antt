pub mod Short
pub mod Fits
pub mod Frames
pub mod Pushed
pub mod Written
pub mod Replies
pub mod Answering
pub mod Herd
