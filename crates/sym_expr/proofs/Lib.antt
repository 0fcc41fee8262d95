pub mod WordLemmas
pub mod PatternLemmas
pub mod ElementLemmas
pub mod OutcomeLemmas
pub mod OperatorLemmas
pub mod ExprRules
pub mod TranslationLemmas
pub mod WriteLemmas
