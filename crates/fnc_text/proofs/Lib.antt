-- Proved here: numbers, durations, words and escapes are read as their grammars say, both where they have a value and
-- where they have a fault.
pub mod DigitLemmas
pub mod EscapeLemmas
pub mod WordLemmas
