pub mod Demands
pub mod Decided
pub mod Wrong
pub mod Costs
pub mod Kept
pub mod Told
