pub mod Kept
pub mod FreshRecords
pub mod OpsRecords
pub mod Stands
pub mod PlanTries
