pub mod Steps
pub mod Lines
pub mod Ended
pub mod Summed
pub mod Turns
pub mod Worked
