pub mod Numbers
pub mod Filling
