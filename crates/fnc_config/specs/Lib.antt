pub mod Causes
pub mod Changes
pub mod Configured
pub mod Patterns
pub mod Planning
pub mod Plans
pub mod Scopes
