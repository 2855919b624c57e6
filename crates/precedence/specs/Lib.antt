pub mod Pairs
pub mod Held
pub mod Preceded
