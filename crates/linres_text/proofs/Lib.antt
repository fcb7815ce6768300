pub mod Lengths
pub mod Jobs
pub mod Theorems
pub mod Demands
pub mod Cases
pub mod AnyTexts
pub mod Answering
