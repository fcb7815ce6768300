pub mod Lists
pub mod Laws
pub mod Sizes
pub mod Rests
pub mod Numbers
pub mod Promises
