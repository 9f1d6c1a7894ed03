pub mod Bits
pub mod Hits
pub mod Tree
pub mod Parts
pub mod IndexedBank
