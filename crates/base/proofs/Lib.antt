pub mod Put
pub mod Tests
