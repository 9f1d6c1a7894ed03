pub mod Names
pub mod Verdict
