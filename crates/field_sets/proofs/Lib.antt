pub mod Onward
pub mod Covering
pub mod Together
pub mod Inside
pub mod Always
pub mod United
pub mod InTurn
