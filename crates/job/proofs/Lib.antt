pub mod Equal
pub mod Paired
