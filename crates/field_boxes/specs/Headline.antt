-- What the headline of the program says of fields, headers, rules and the names of decisions.
pub mod Fields
pub mod Classifier
pub mod Names
pub mod Bits
pub mod Prefix
pub mod FilterList
