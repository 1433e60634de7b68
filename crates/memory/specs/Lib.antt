pub mod Whole
pub mod Making
