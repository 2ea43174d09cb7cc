pub mod Entries
pub mod Hosts
pub mod Checks
