-- That what is gathered of operations is what the definitions of standing, due and startable say, and that the
-- judge finds the first fault.
pub mod Closed
pub mod Counts
pub mod Gatherings
pub mod Ranks
pub mod SurveyLemmas
pub mod CourseLemmas
pub mod Opening
pub mod Waiting
pub mod Lefts
pub mod Stands
pub mod Testings
pub mod Firsts
