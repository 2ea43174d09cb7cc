pub mod Timed
pub mod Room
pub mod Rests
pub mod Session
pub mod Heard
pub mod Polls
