pub mod Steps
pub mod Writes
pub mod ListSteps
pub mod ListWrites
pub mod SignedSteps
pub mod Smalls
