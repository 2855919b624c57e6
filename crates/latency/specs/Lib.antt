pub mod Chips
pub mod Settlements
pub mod Settling
pub mod ChipsLemmas
pub mod Analyses
pub mod AnalysesLemmas
