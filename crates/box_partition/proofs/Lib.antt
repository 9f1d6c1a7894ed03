pub mod Coarse
pub mod Stripped
pub mod Made
pub mod Exists
pub mod InPlace
pub mod Stated
mod Pairing
pub mod Until
pub mod Texts
pub mod Certified
pub mod Answered
pub mod Walking
pub mod Endings
