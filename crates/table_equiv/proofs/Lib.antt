pub mod Keys
pub mod Firsts
pub mod Outcomes
pub mod Bits
pub mod Searched
pub mod Covered
pub mod Claimed
