pub mod Facts
pub mod Keeps
pub mod Ranges
pub mod Shut
