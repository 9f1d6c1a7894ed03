pub mod Columns
pub mod KeyNumbers
pub mod Differing
pub mod BankSlots
pub mod Searches
pub mod Filling
pub mod LaneByLane
pub mod Eights
