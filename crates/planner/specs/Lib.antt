pub mod JobRules
pub mod Calls
