pub mod Anywhere
pub mod Zeros
pub mod GoesOn
pub mod Words
