pub mod Solution
pub mod Interference
pub mod Rules
pub mod Tables
pub mod Promises
