pub mod Pushed
pub mod Read
