-- Proved here: `define` gives what the options say or their first fault, and what it gives is within the bounds.
pub mod OptionLemmas
pub mod Reading
pub mod Inversion
pub mod EntryBounds
pub mod HostBounds
pub mod OptionBounds
pub mod NumberBounds
pub mod Bounded
