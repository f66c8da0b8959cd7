pub mod Parts
pub mod Chains
pub mod Rejoining
pub mod Shut
