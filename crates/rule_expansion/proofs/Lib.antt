pub mod Combinations
pub mod Adding
pub mod Deciding
pub mod Naming
pub mod Places
pub mod Prefixed
