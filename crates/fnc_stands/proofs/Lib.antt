-- Proved here: of the slots of an operation that were started only that at which it stands is open, so it stands there
-- until the end of that slot has come.
pub mod Lists
pub mod Alike
pub mod Distinct
pub mod Sound
pub mod Standing
pub mod UnderWay
pub mod Steps
pub mod Journals
