pub mod Whole
pub mod Made
