pub mod Blanks
pub mod Cuts
pub mod ListOutput
pub mod Meanings
pub mod Options
pub mod OptionLines
pub mod Descriptions
