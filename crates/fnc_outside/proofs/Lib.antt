-- Proved here: what the sources and sinks that work in memory give, hold and count, so that they meet their traits.
pub mod Cutting
pub mod Telling
