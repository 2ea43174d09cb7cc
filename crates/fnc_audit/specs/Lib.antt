pub mod TextRead
pub mod Said
pub mod Texted
pub mod Audits
pub mod Reading
