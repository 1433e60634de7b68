pub mod Codes
pub mod Letters
pub mod Making
