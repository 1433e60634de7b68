pub mod Slots
pub mod Changes
