pub mod Arguments
pub mod Making
pub mod Values
pub mod Commands
