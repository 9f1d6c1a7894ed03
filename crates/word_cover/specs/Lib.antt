pub mod Covers
pub mod Cubes
pub mod Open
pub mod Sights
