pub mod Candidates
pub mod Tables
pub mod Searches
pub mod Answers
pub mod Plans
pub mod Texts
