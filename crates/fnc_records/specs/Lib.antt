pub mod SlotRecords
pub mod SlotFacts
pub mod KeptLevel
pub mod LevelRecords
pub mod LevelFacts
pub mod KeptOperation
pub mod OperationRecords
pub mod OperationFacts
