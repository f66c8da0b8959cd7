pub mod Kept
pub mod Shut
