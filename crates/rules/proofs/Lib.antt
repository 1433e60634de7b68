pub mod Lists
pub mod Queues
pub mod Loads
pub mod GoodKept
pub mod Accepted
pub mod Agreement
pub mod Words
pub mod Whole
