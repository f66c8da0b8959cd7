pub mod Bytes
pub mod Hearing
pub mod Moves
pub mod Queue
pub mod Rounds
pub mod Sides
