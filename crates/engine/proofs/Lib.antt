pub mod Zeros
pub mod Collisions
pub mod Longer
pub mod Ends
pub mod Joined
