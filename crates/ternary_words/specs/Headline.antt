-- What the headline of the program says of ternary words and tables.
pub mod Word
pub mod Table
