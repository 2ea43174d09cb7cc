-- Proved here: the texts of agents equal their grammars, and options that were written are read back.
pub mod Boundaries
pub mod LinesCut
pub mod OptionLemmas
pub mod PairsSoFar
pub mod ReadsBack
pub mod ItemsSeen
pub mod DescriptionBounds
