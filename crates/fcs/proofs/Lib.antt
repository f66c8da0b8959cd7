pub mod Xor
pub mod Linear
pub mod Agree
pub mod Laws
