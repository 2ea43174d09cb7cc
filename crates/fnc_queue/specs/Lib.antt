pub mod Rising
pub mod Items
pub mod Lanes
pub mod Queued
pub mod Places
pub mod Lines
