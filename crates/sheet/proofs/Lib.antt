pub mod Listed
pub mod Equal
pub mod Same
