pub mod Chosen
pub mod Sets
pub mod Orders
pub mod Passing
pub mod Hopes
pub mod Stands
pub mod Counts
pub mod Lawfully
