pub mod Records
pub mod Told
pub mod Put
pub mod Kinds
pub mod Promises
pub mod Scan
pub mod Laws
