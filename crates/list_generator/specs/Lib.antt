pub mod Draws
pub mod DrawnSets
pub mod DrawnRules
pub mod DrawnHeaders
pub mod Growing
pub mod Generated
pub mod Loads
