pub mod Digits
pub mod Durations
pub mod Words
pub mod Escapes
