mod Climb
mod Delayed
mod Settles
mod Promised
mod Sums
pub mod Mapped
