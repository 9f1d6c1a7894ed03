pub mod Slots
pub mod Columns
pub mod Keys
pub mod Bank
pub mod Search
pub mod Vectors
pub mod FaultyBank
pub mod Tries
