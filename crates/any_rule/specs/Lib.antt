pub mod AnyRules
