pub mod Spans
pub mod Cover
pub mod Shortest
pub mod Halves
pub mod Share
pub mod Fronts
