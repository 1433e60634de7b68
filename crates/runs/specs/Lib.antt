pub mod RunLaw
