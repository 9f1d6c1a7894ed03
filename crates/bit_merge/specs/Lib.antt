pub mod Merge
pub mod Table
pub mod Slots
pub mod Near
pub mod Runs
pub mod Index
