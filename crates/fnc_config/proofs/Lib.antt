-- What is proved of a configuration: its tables are the entries of their names, and its answers those of the journal.
pub mod CompiledTexts
pub mod Configurations
pub mod KeptAnswers
pub mod Keyed
pub mod LevelCounts
pub mod LevelSteps
pub mod PatternTexts
pub mod PlanCandidates
pub mod PlanScopes
pub mod RegisteredDevices
pub mod Registry
pub mod Scoping
pub mod Shown
pub mod StandingTargets
pub mod TargetSteps
