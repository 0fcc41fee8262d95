-- What a checker holds.
use Rattle.cnf.specs.declared.formula.Formula.{Formula}
use Rattle.cnf.specs.declared.derivation.Derivation.{Derivation}

pub record Task : Type 0 where
  pub formula : Formula
  pub derivation : Derivation
