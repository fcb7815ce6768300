pub mod Multiplicity
pub mod Laying
pub mod Collisions
pub mod AllPlacements
pub mod Number
pub mod Merge
