pub mod State
pub mod Parts
pub mod Meeting
pub mod Marks
pub mod Labels
pub mod Search
