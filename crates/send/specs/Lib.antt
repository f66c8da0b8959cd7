pub mod Repeat
pub mod Makers
pub mod Submit
