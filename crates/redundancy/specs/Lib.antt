pub mod Remembered
pub mod Stretches
pub mod Drafts
pub mod Kept
pub mod Removal
pub mod Blocks
pub mod Lists
pub mod NodeBlocks
