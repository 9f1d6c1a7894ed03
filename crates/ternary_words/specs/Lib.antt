pub mod Headline
pub mod Word
pub mod Prefixes
pub mod Views
pub mod Entries
pub mod Limits
pub mod Copies
