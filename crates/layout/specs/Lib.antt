pub mod Cursor
pub mod Tags
pub mod Layout
pub mod Faults
pub mod Progress
pub mod Reading
pub mod Texts
pub mod Writing
