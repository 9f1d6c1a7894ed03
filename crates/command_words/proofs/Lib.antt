pub mod Taking
pub mod Fitting
pub mod Apart
pub mod OneFile
