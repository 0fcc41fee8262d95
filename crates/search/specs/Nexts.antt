-- What comes next in a state of the search.
use Rattle.std.specs.Prelude.{◌≡◌, ℕ, ◌+◌, ◌-◌, ◌≤◌, ℤ, Bool, false, List, [], ◌∷◌, ◌++◌, length, take, slice_index_or, None, Some}
use Rattle.cnf.specs.declared.derivation.Derivation.{Derivation}
use Rattle.cnf.specs.declared.derivation.DerivationLine.{DerivationLine}
use Rattle.cnf.specs.declared.formula.Formula.{Formula}
use Rattle.cnf.specs.Checks.{Checks, IsRight}
use Rattle.cnf.specs.Formulas.{Satisfies}
use Rattle.search.specs.declared.found.Found.{Found}
use Rattle.search.specs.declared.found.Found.TheVariants as found
use Rattle.search.specs.declared.moves.Move.TheVariants as move
use Rattle.search.specs.declared.next.Next.{Next}
use Rattle.search.specs.declared.next.Next.TheVariants as next
use Rattle.search.specs.declared.trail.Entry.{Entry}
use Rattle.search.specs.Machine.{EndsAsModel, IsFinished, Moves, Runs, State, clauses_of, first_state, with_entry}

abbrev pub state_of : List Entry → Derivation → State
state_of trail learned = record { trail = trail; learned = learned.lines }

-- the state behind a learned line and a literal
abbrev pub jumped : Formula → State → DerivationLine → ℕ → ℤ → State
jumped formula s line cut x = record {
  trail = with_entry (take cut s.trail) x (Some (length (clauses_of formula s) + 1));
  learned = s.learned ++ line ∷ [];
}

-- a move is allowed, and the state isn't finished
abbrev pub IsNext : Formula → State → Next → Type 0
IsNext formula s next.Model = EndsAsModel formula s
IsNext formula s (next.Refuted line) = IsRight (clauses_of formula s) line × (line.clause ≡ [])
IsNext formula s (next.Propagate clause x) =
    Moves formula s (move.Propagate clause) record { trail = with_entry s.trail x (Some clause); learned = s.learned } × (IsFinished formula s → ⊥)
IsNext formula s (next.Decide x) = Moves formula s (move.Decide x) record { trail = with_entry s.trail x None; learned = s.learned } × (IsFinished formula s → ⊥)
IsNext formula s (next.Jump line cut x) = Moves formula s (move.Jump line cut) (jumped formula s line cut x) × (IsFinished formula s → ⊥)

-- a value for each variable, from 1, so that the formula is satisfied
abbrev pub IsModel : Formula → List Bool → Type 0
IsModel formula model = (length model ≡ formula.variables) × Satisfies (λ v. slice_index_or model (v - 1) false) formula

-- lines that check over the formula, at most one more than the moves
abbrev pub IsRefutation : Formula → ℕ → Derivation → Type 0
IsRefutation formula moves derivation = Checks formula derivation × (length derivation.lines ≤ moves + 1)

-- what ends a search after so many moves
abbrev pub IsEnd : Formula → ℕ → Found → Type 0
IsEnd formula moves (found.Model model) = IsModel formula model
IsEnd formula moves (found.NoModel derivation) = IsRefutation formula moves derivation
IsEnd formula moves (found.Spent history) = ⊥

-- what a search may answer: an end within the budget, or a history of as many moves as the budget, whose end isn't finished
abbrev pub IsFound : Formula → ℕ → Found → Type 0
IsFound formula budget (found.Model model) = IsModel formula model
IsFound formula budget (found.NoModel derivation) = IsRefutation formula budget derivation
IsFound formula budget (found.Spent history) =
    (length history.moves ≡ budget) × ((end : State) × Runs formula first_state history.moves end × (IsFinished formula end → ⊥))

-- a search ended with a model or with a derivation
abbrev pub HasEnded : Found → Type 0
HasEnded (found.Model model) = Unit {0}
HasEnded (found.NoModel derivation) = Unit {0}
HasEnded (found.Spent history) = ⊥
