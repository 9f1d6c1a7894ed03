pub mod Edges
pub mod Levels
pub mod Diagram
pub mod Split
pub mod Parts
pub mod Store
pub mod Nodes
