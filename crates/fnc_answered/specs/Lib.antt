pub mod Plain
pub mod Done
pub mod Counts
