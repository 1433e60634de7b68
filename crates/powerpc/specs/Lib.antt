pub mod Reads
pub mod Making
