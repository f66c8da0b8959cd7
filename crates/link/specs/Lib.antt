pub mod Promises
pub mod FalseEnds
