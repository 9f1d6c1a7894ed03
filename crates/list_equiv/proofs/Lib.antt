pub mod Common
pub mod Renumbered
pub mod Decided
pub mod Compared
