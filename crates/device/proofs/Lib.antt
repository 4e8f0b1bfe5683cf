pub mod Doings
pub mod Steps
pub mod Wakened
pub mod Stores
pub mod Goes
pub mod Calls
pub mod Allowed
pub mod Served
pub mod Telling
pub mod Counted
mod Words
