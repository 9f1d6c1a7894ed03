pub mod Ascii
pub mod Columns
pub mod Cuts
pub mod Decimals
pub mod Found
pub mod Joins
pub mod NumberBack
pub mod Positions
