-- What the headline of the program says of the text of tables.
pub mod Hexadecimal
pub mod TableText
