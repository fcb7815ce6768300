pub mod Modulo
pub mod Residues
pub mod Words
pub mod Prime
pub mod Trial
pub mod Field
pub mod Promises
