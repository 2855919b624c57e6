pub mod Lists
pub mod Meaning
pub mod Laws
pub mod FlowSets
pub mod Questions
