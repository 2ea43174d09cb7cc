-- Proved here: the least run that is alive is found behind those that have ended, the lines that were made are the inputs
-- of the journal, the counts are those of the journal, and at the end each request has its answer.
mod Least
mod Unrolled
mod Moments
mod Serving
mod Counts
mod Wholly
mod Over
mod Plain
mod Answered
