pub mod Promises
pub mod Decided
