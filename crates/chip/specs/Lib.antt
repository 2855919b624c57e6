pub mod Equality
pub mod Refusals
pub mod Flows
pub mod Reserves
pub mod Routes
pub mod Texts
