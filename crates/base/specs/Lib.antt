pub mod Answer
pub mod Range
pub mod Buffer
