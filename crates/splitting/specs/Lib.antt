pub mod Values
pub mod Lists
pub mod Steps
pub mod Extension
pub mod Splitting
