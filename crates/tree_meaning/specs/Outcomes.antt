-- How what an expression or a statement does goes on, or ends.
use Rattle.std.specs.Prelude.{ℕ, zero, suc, Bool, not, ◌==◌, List, Result, Ok, Err}
use Rattle.cfa.specs.declared.state.Trap.{Trap}
use Rattle.tree_meaning.specs.declared.way.Way.{Way}
use Rattle.tree_meaning.specs.declared.way.Way.TheVariants.{GoesOn}

-- What stands while functions run: what the cells hold, the answers that input functions have yet to give, and how many
-- turns are left.
pub record Store : Type 0 where
  pub cells : List ℕ
  pub answers : List ℕ
  pub turns : ℕ

-- the ends of a run other than that it returns
pub data End : Type 0 where
  TrapEnd : Trap → End
  BlockedEnd : End
  TooDeepEnd : End

-- what was done: it gives something and leaves a store; it ends the whole run; or it wants a turn where none is left
pub data Done (A : Type 0) : Type 0 where
  Gives : A → Store → Done A
  Ends : End → Done A
  OutOfTurns : Done A

infixr 20 ◌andthen◌
-- goes on with what is given and left
abbrev pub ◌andthen◌ : {A B : Type 0} → Done A → (A → Store → Done B) → Done B
(Gives x s) andthen next = next x s
(Ends end) andthen next = Ends end
OutOfTurns andthen next = OutOfTurns

-- goes on with a value, and ends at a trap
abbrev pub unless_trap : {A B : Type 0} → Result A Trap → (A → Done B) → Done B
unless_trap (Ok value) next = next value
unless_trap (Err trap) next = Ends (TrapEnd trap)

-- what a statement does
abbrev pub Meaning : Type 0
Meaning = Store → Done Way

-- what is done for a value
abbrev pub Evaluation : Type 0
Evaluation = Store → Done ℕ

-- nothing is done
abbrev pub skip : Meaning
skip s = Gives GoesOn s

-- a value is true where it is other than 0 (6.5.13p3, 6.8.4.1p2)
abbrev pub is_true : ℕ → Bool
is_true v = not (v == 0)

-- with other cells
abbrev pub with_cells : Store → List ℕ → Store
with_cells s cells = record { cells = cells; answers = s.answers; turns = s.turns }

-- Takes a turn, if one is left. Beginning a loop's body and calling a function that is defined take one each.
abbrev pub turn_of : {A : Type 0} → ℕ → Store → (Store → Done A) → Done A
turn_of zero s next = OutOfTurns
turn_of (suc n) s next = next (record { cells = s.cells; answers = s.answers; turns = n })

abbrev pub turn : {A : Type 0} → Store → (Store → Done A) → Done A
turn s next = turn_of s.turns s next
