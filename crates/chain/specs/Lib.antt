pub mod Pctr
pub mod Packet
pub mod Cut
pub mod Join
pub mod Promises
pub mod FalseCalls
