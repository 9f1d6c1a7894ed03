mod SoFar
mod Behind
mod Chosen
mod Between
pub mod FirstAnswers
pub mod PartsShown
pub mod Named
pub mod Joining
pub mod Least
pub mod Order
pub mod Meetings
