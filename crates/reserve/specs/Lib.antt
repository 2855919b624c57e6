pub mod Reserves
pub mod Reserved
