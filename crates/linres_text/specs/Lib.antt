pub mod Texts
pub mod Promise
pub mod AnyText
