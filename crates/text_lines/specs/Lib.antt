pub mod Headline
pub mod Numbers
pub mod Columns
pub mod Reading
