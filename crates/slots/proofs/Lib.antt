pub mod Shown
pub mod Tally
