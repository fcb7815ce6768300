pub mod Refusals
pub mod Resolved
pub mod Cases
pub mod Judged
pub mod Success
