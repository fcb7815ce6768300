pub mod Placements
pub mod Places
