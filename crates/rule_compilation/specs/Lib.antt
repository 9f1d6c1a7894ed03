pub mod Compiled
pub mod Entries
pub mod Pass
pub mod Kept
