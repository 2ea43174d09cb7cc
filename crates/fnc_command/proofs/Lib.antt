-- Proved here: each line is read as the line language says, to its command or to the first cause against it.
pub mod Spellings
pub mod PairsSoFar
pub mod Readings
pub mod Bounds
pub mod Propriety
pub mod ProperLines
