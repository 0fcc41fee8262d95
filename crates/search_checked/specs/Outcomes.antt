-- What is known of a formula within a budget.
use Rattle.std.specs.Prelude.{ℕ}
use Rattle.certificate.specs.Certificates.{IsPair}
use Rattle.cnf.specs.declared.formula.Formula.{Formula}
use Rattle.search.specs.Nexts.{IsFound, IsModel, IsRefutation}
use Rattle.search.specs.declared.found.Found.TheVariants.{Spent}
use Rattle.search_checked.specs.declared.known.Outcome.{Outcome}
use Rattle.search_checked.specs.declared.known.Outcome.TheVariants.{Model, Refuted, Open}

-- a model; lines that check over it, at most one more than the budget, which a certificate can write; or as many moves as the
-- budget, whose end isn't finished
abbrev pub IsOutcome : Formula → ℕ → Outcome → Type 0
IsOutcome formula budget (Model model) = IsModel formula model
IsOutcome formula budget (Refuted derivation) = IsRefutation formula budget derivation × IsPair formula derivation
IsOutcome formula budget (Open history) = IsFound formula budget (Spent history)
