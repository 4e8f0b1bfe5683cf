pub mod Scan
pub mod Place
