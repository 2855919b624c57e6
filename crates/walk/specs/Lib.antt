pub mod Choice
pub mod Walk
pub mod WalkLaw
