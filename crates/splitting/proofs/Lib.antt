pub mod StepLaws
pub mod Adjoin
pub mod AdjoinLaws
pub mod Splittings
