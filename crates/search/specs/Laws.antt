-- Laws of the search machine.
use Rattle.std.specs.Prelude.{◌≡◌, ℕ, zero, suc, ◌+◌, ◌*◌, ◌^◌, ◌<◌, ℤ, Bool, true, ◌&&◌, nat_lt, List, [], ◌∷◌, length, if◌then◌else◌}
use Rattle.std.specs.List.{list_all}
use Rattle.std.specs.Option.{is_some}
use Rattle.cnf.specs.declared.formula.Formula.{Formula}
use Rattle.cnf.specs.Clauses.{literal_key}
use Rattle.search.specs.declared.moves.Move.{Move}
use Rattle.search.specs.declared.trail.Entry.{Entry}
use Rattle.search.specs.Machine.{State, IsFinished, Moves, Runs, first_state}

-- each literal of the formula is one of its variables 1 to their number
abbrev pub is_over : ℕ → ℤ → Bool
is_over variables x = nat_lt 1 (literal_key x) && nat_lt (literal_key x) (2 * variables + 2)

abbrev pub IsFormula : Formula → Type 0
IsFormula formula = list_all (list_all (is_over formula.variables)) formula.clauses ≡ true

-- an entry as a digit: a decided literal is 1, an implied one 2
abbrev pub digit : Entry → ℕ
digit e = if is_some e.reason then 2 else 1

-- the trail, read as the first of this many digits to base 3, the others being 0
abbrev pub number_of : ℕ → List Entry → ℕ
number_of zero trail = 0
number_of (suc places) [] = 0
number_of (suc places) (e ∷ trail) = digit e * 3 ^ places + number_of places trail

-- the number of the trail rises at each move of a history
abbrev pub TrailsRise : Type 0
TrailsRise =
    (formula : Formula) (before : List Move) (s : State) (move : Move) (t : State) → IsFormula formula
    → Runs formula first_state before s → Moves formula s move t → number_of formula.variables s.trail < number_of formula.variables t.trail

-- no history has 3 to the number of the variables moves
abbrev pub HistoriesEnd : Type 0
HistoriesEnd =
    (formula : Formula) (moves : List Move) (s : State) → IsFormula formula
    → Runs formula first_state moves s → length moves < 3 ^ formula.variables

-- from the end of a history, where it isn't finished, a move leads on
abbrev pub MovesOn : Type 0
MovesOn =
    (formula : Formula) (moves : List Move) (s : State) → IsFormula formula → Runs formula first_state moves s
    → (IsFinished formula s → ⊥) → (move : Move) × (t : State) × Moves formula s move t
