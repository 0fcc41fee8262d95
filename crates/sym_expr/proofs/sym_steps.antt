pub mod CellLemmas
pub mod EffectLemmas
pub mod NodeLemmas
pub mod ReturnLemmas
pub mod StartLemmas
pub mod StepLemmas
