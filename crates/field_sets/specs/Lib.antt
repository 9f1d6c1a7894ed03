pub mod Fill
pub mod Placed
pub mod Laying
pub mod Parting
pub mod Constant
pub mod Unions
