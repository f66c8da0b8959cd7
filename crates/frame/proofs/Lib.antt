pub mod Writing
pub mod Hearing
pub mod Reasons
pub mod Orders
