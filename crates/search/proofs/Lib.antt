pub mod Gathering
pub mod Tabled
pub mod Heard
pub mod Opened
pub mod Stepping
pub mod Advanced
pub mod Answered
pub mod Planned
