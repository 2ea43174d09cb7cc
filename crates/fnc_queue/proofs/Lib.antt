-- Proved here: the first of the queue is the least that is ready on a lane with room, and the calls change what waits
-- and what is alive by one.
pub mod RisingLemmas
pub mod ItemLemmas
pub mod LaneLemmas
pub mod FirstLemmas
pub mod OrderLemmas
pub mod LineLemmas
pub mod StretchLemmas
pub mod LinedFirst
pub mod Numbers
