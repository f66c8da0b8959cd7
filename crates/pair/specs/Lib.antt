pub mod System
pub mod Round
pub mod Demand3
pub mod TrueCalls
pub mod Run
pub mod History
pub mod FalseCalls
pub mod Mixture
