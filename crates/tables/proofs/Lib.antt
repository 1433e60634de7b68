pub mod Evictions
pub mod Positions
