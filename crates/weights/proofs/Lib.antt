pub mod Moving
pub mod Sum
pub mod Counting
pub mod Falling
