-- Proved here: what the lines of a text are read as, one after another, what is said of the journal that they spell, and
-- why a call ends.
pub mod AnswerLine
pub mod Asking
pub mod Answered
pub mod Polling
pub mod Ending
pub mod Writing
