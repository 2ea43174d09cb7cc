pub mod Courses
pub mod Numbers
pub mod Opened
pub mod Places
pub mod Surveys
pub mod Testing
pub mod Tours
pub mod Verdicts
