pub mod Uncontended
pub mod Laws
