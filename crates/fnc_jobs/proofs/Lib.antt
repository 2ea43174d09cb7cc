-- Proved here: what a job says is what the journal says of its start, and what its agent is sent can be sent.
pub mod WithinBounds
pub mod Sendable
pub mod FirstJobs
