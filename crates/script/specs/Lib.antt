pub mod Splitmix
