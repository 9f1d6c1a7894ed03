pub mod Ordered
pub mod Composed
pub mod Removed
pub mod Prefixed
pub mod Whole
