pub mod Distinct
pub mod Still
