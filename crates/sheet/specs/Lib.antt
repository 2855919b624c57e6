pub mod Flows
pub mod Letters
pub mod Pairs
pub mod Sheets
pub mod PairEquality
