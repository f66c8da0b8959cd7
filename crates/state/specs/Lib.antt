pub mod Bounds
pub mod State
pub mod Fields
pub mod Gate
pub mod Timer
pub mod Calls
pub mod Formed
pub mod FalseTimes
