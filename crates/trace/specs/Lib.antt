pub mod Format
pub mod Listed
pub mod Words
pub mod Left
