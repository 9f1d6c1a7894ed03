pub mod Rules
pub mod Sets
pub mod Overlay
pub mod Nothing
pub mod Lasting
pub mod Builders
pub mod Copies
