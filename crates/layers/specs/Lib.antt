pub mod Twins
pub mod Shift
pub mod Agreement
