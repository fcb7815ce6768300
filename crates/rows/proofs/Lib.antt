pub mod Front
pub mod Crossed
pub mod Terms
pub mod Inner
pub mod Grown
