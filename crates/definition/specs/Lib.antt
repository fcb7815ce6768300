pub mod Definition
pub mod Rules
pub mod Product
pub mod Cost
