pub mod Reading
pub mod ResolvedOnly
pub mod Edges
pub mod CasesHold
pub mod SuccessOnly
pub mod Search
