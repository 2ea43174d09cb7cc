-- Proved here: what is printed of an entry, part by part and list by list, is its spelling, or a part from the front of it
-- where a write failed.
pub mod Listing
pub mod ActionWords
pub mod Lines
