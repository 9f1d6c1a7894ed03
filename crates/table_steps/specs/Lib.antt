pub mod Free
pub mod Passing
pub mod Shortened
pub mod Needs
pub mod Exchange
pub mod Answering
