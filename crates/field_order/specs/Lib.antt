pub mod Order
pub mod Best
pub mod Fronts
pub mod Worth
pub mod Search
