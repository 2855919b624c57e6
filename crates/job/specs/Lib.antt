pub mod Jobs
pub mod Equality
pub mod EqualityLemmas
