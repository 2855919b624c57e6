pub mod Equal
pub mod Marks
pub mod Meeting
pub mod Sound
pub mod Walks
