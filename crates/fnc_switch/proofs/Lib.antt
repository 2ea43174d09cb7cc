-- Proved here: a switch's text equals its grammar, and an agent acts by its table.
pub mod ReadLines
pub mod ReadsBack
pub mod Kept
pub mod Places
pub mod Leaving
