pub mod View
pub mod Kept
pub mod Hardware
