pub mod SourceAndSink
pub mod Read
pub mod Held
