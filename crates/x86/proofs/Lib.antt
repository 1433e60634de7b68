mod Worked
pub mod Wirings
