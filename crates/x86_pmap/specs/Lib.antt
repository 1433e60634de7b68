pub mod Kept
pub mod Views
pub mod Seen
