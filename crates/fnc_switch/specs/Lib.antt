pub mod Plugs
pub mod Switches
pub mod References
pub mod Agents
pub mod Runs
