-- What the headline of the program says of reads and writes.
pub mod Outcomes
pub mod Readings
