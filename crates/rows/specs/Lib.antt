pub mod Rows
pub mod Newton
pub mod Factorials
pub mod Recurrence
pub mod Lent
