-- Proved here: what was read by some polls, and then by others, was read by all of them, and what one poll reads.
pub mod Reading
