pub mod Search
pub mod Holding
pub mod Changes
pub mod Mapped
pub mod Calls
pub mod Wired
pub mod Losses
