pub mod Bits
pub mod Steps
pub mod Sweeps
pub mod Sets
