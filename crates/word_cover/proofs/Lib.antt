pub mod Numbers
pub mod Members
pub mod Headers
pub mod Hulls
pub mod Parts
