pub mod Steps
pub mod Take
pub mod Refusals
