pub mod SoFar
pub mod Finished
pub mod HeadersSoFar
