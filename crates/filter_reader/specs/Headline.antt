-- What the headline of the program says of the text of a filter list.
pub mod Tokens
pub mod Addresses
pub mod Ports
pub mod Masks
pub mod Columns
pub mod RuleLine
pub mod FilterList
