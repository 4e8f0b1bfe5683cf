pub mod Layout
pub mod Rows
pub mod Tables
pub mod Values
pub mod Changes
pub mod Reads
