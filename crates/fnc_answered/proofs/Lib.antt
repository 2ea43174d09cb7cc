-- Proved here: where nothing is left to start or to answer, every request of a lawful journal has its answer.
pub mod Numbers
pub mod Waiting
pub mod Answers
pub mod Told
pub mod Idle
pub mod PlainTasks
pub mod Ready
pub mod Nothing
