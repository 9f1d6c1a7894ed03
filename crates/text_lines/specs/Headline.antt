-- What the headline of the program says of lines, separators and digits.
pub mod Steps
pub mod Fallible
pub mod Cuts
pub mod Numbers
pub mod Lines
pub mod Reading
