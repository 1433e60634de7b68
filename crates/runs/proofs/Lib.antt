pub mod Trails
