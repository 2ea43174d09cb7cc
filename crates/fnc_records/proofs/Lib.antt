-- The records of a slot, of a level and of an operation stay those of its acts with each start and exit, and
-- what is read off them is what the definitions of the standing, the answer and the tries say.
pub mod SlotSteps
pub mod SlotAnswers
pub mod Counts
pub mod Zip
pub mod LevelSteps
pub mod LevelAnswers
pub mod LevelLists
pub mod Latest
pub mod OperationAnswers
pub mod Ranking
pub mod OperationSteps
pub mod Searches
pub mod LeftTries
pub mod StandingSlots
pub mod EarlyMoments
