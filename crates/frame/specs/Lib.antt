pub mod Bytes
pub mod Steps
pub mod Promises
pub mod Orders
