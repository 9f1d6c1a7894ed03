pub mod First
pub mod Members
pub mod Rules
mod Naming
pub mod Sound
mod Headings
pub mod Kept
pub mod Ordered
pub mod OneVerdict
pub mod Outcomes
pub mod Covering
pub mod Searching
pub mod Claiming
pub mod Judging
pub mod Words
pub mod FirstLine
pub mod Lines
pub mod LongWords
pub mod Reading
pub mod Pieces
mod SeenAlike
mod Begins
mod RightLines
mod RightWords
mod RightProofs
