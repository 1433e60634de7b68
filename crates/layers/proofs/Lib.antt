pub mod Shifts
pub mod Halves
pub mod Lifts
