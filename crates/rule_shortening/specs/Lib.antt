pub mod Shortened
pub mod Drafts
pub mod Trimmed
pub mod Tasks
