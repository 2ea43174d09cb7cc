-- Proved here: each line gives the one input entry that it calls for, and what is printed of a journal are the lines of its
-- entries and the counts at its end.
pub mod Replied
pub mod Taking
pub mod Counting
pub mod Configuring
pub mod Described
pub mod Within
pub mod Devices
pub mod Changing
pub mod Keeping
pub mod Denying
pub mod Asked
pub mod LineEntries
pub mod ReadLines
pub mod LineForms
pub mod Numbering
pub mod StartLine
pub mod Lines
pub mod Tallies
