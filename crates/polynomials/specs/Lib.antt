pub mod Divisors
pub mod Rows
