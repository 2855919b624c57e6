pub mod Marks
pub mod Digits
pub mod FlowSets
pub mod Members
pub mod Distinct
pub mod Told
pub mod Below
pub mod Beside
