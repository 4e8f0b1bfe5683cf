pub mod Herd
pub mod Told
pub mod Bars
pub mod Responds
pub mod Serves
