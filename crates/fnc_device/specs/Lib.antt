pub mod Steps
pub mod Options
pub mod Nodes
pub mod Times
pub mod Schedules
pub mod Allowances
pub mod Definitions
