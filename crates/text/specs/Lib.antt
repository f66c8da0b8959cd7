pub mod Line
pub mod Page
