pub mod Entries
pub mod Seen
pub mod Law
