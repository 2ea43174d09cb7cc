-- That searches from the oldest entry on find what the definitions of a journal say.
pub mod Prefixed
pub mod Searches
pub mod Pointed
pub mod Rising
pub mod OldestLevels
pub mod Looks
pub mod Numbered
pub mod Chained
pub mod Setups
pub mod Ordered
pub mod Queue
pub mod Writing
