pub mod Ranges
pub mod Meaning
pub mod Tally
