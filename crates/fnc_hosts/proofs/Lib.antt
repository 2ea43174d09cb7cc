-- Proved here: host lists and maps are read as their grammars say, both where they have a value and a fault.
pub mod EntryLemmas
pub mod Boundaries
pub mod Reading
