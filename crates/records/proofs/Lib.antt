pub mod Puts
pub mod AnyKind
pub mod Theorems
pub mod Parses
pub mod Outcomes
pub mod Values
