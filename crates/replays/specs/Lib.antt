pub mod Selected
pub mod Blocks
pub mod Replayed
