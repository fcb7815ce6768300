pub mod Results
pub mod Promise
pub mod Cleared
pub mod Cost
pub mod Slices
