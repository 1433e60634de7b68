pub mod Matches
pub mod Ranges
pub mod Storing
pub mod Ready
pub mod Evicting
pub mod Leaves
pub mod Reaching
pub mod Replies
