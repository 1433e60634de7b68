pub mod Codec
pub mod Left
