pub mod Stays
pub mod Kept
pub mod AppliedParts
pub mod AppliedNodes
