pub mod Inputs
pub mod JobOf
