pub mod New
pub mod Kept
pub mod Entering
pub mod Victims
