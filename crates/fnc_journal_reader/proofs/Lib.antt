-- Proved here: the spelling of an entry within the bounds is cut into its words and read back as that entry, and what is
-- read holds what its types can hold; so a line is the spelling of one entry at most.
pub mod Cutting
pub mod Reading
pub mod CharacterBytes
pub mod Spellings
pub mod Splits
pub mod ValuesBack
pub mod ListsBack
pub mod EntriesBack
pub mod Answering
pub mod TypedBack
