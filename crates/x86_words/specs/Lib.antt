pub mod Words
pub mod Walks
pub mod Within
pub mod State
pub mod Answers
pub mod Lookups
