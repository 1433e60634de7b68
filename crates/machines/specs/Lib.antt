pub mod Names
pub mod Replays
pub mod Shows
