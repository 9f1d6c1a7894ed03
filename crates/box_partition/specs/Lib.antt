pub mod Coarsest
pub mod Certificate
pub mod Standing
pub mod Firsts
pub mod Rows
pub mod Output
pub mod Stopped
pub mod Outcome
