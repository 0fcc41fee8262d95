-- What the checker says of a table of marks.
use Rattle.std.specs.Prelude.{◌≡◌, ℕ, ℤ, Bool, true, List, not, ◌&&◌}
use Rattle.std.specs.List.{list_all, list_any}
use Rattle.std.specs.Option.{option_map_or}
use Rattle.cnf.specs.declared.formula.Formula.{Formula}
use Rattle.cnf.specs.declared.derivation.Derivation.{Derivation}
use Rattle.cnf.specs.declared.derivation.DerivationLine.{DerivationLine}
use Rattle.cnf.specs.Checks.{numbered}
use Rattle.cnf.specs.declared.literal_marks.places.Places.{Places}
use Rattle.cnf.specs.literal_marks.Marks.{has_places}

-- each literal of the formula and of the derivation has a place in a table of this size
pub record HasPlaces (places : Places) (size : ℕ) (formula : Formula) (derivation : Derivation) : Type 0 where
  pub clauses : list_all (has_places places size) formula.clauses ≡ true
  pub lines : list_all (λ line. has_places places size line.clause) derivation.lines ≡ true

-- whether no literal of the clause with a number is in a set
abbrev pub is_clear_of : List (List ℤ) → (ℤ → Bool) → ℕ → Bool
is_clear_of earlier set number = option_map_or (λ clause. not (list_any set clause)) (numbered earlier number) true

-- whether no literal of the clauses of a line's chain is in a set
abbrev pub is_clear_chain : List (List ℤ) → (ℤ → Bool) → DerivationLine → Bool
is_clear_chain earlier set line = is_clear_of earlier set line.first && list_all (λ step. is_clear_of earlier set step.0) line.steps
