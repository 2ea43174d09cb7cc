-- Proved here: what is claimed of a worked journal follows from tests that compute.
pub mod Verdicts
