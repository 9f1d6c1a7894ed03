pub mod Outcome
pub mod Showing
pub mod Texts
