pub mod Parting
pub mod Agreement
pub mod Agreed
pub mod Joint
