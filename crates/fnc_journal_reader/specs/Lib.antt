pub mod Typed
pub mod Cuts
pub mod Reads
pub mod Values
pub mod Entries
pub mod Spells
