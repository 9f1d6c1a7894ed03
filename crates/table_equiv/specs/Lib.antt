pub mod Places
pub mod Firsts
pub mod Cubes
pub mod Found
pub mod Claimed
