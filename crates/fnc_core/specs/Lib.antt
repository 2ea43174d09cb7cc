-- What contracts of the core speak of.
pub mod Parted
pub mod Wanted
pub mod Between
pub mod Cored
pub mod Holds
pub mod Limits
pub mod Told
pub mod Calls
