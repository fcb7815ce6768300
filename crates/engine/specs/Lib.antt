pub mod Hat
pub mod Worked
pub mod Answered
