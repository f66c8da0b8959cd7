pub mod Facts
pub mod Keeps
pub mod Refusals
