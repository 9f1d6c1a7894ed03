pub mod OneBit
pub mod FirstHits
pub mod Growth
pub mod Ways
pub mod Ranges
pub mod Filled
