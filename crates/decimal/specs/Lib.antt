pub mod Spelling
pub mod Scan
pub mod Written
pub mod Scans
pub mod NumberLaws
pub mod ListLaws
pub mod SignedLaws
