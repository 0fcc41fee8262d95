-- What the code keeps of the state of a search.
use Rattle.std.specs.Prelude.{◌≡◌, ℕ, ◌+◌, ◌*◌, ◌<◌, ◌≤◌, ◌^◌, ℤ, length}
use Rattle.cnf.specs.declared.formula.Formula.{Formula}
use Rattle.cnf.specs.Checks.{IsRightAt}
use Rattle.cnf.specs.literal_marks.Marks.{IsClear, marked}
use Rattle.cnf.specs.declared.literal_marks.places.Places.TheVariants.{ByKey}
use Rattle.search.specs.declared.machine.Machine.{Machine}
use Rattle.search.specs.Machine.{Runs, first_state, is_true}
use Rattle.search.specs.Nexts.{state_of}
use Rattle.search.specs.Orders.{AreListed}
use Rattle.search.specs.Sound.{IsSound}
use Rattle.search.specs.Steps.{jump_count, moves_of}
use Rattle.search.specs.Trails.{AreLocated}

-- The trail and the learned lines are as they must be, the tables have places for all literals, nothing is marked, and the
-- order of decisions lists each open variable.
pub record IsHeld (formula : Formula) (m : Machine) : Type 0 where
  pub sound : IsSound formula m.learned m.trail.items
  pub rights : (k : ℕ) → k < length m.learned.lines → IsRightAt formula m.learned k
  pub values : (x : ℤ) → marked ByKey m.values.items x ≡ is_true m.trail.items x
  pub places : length m.values.items ≡ 2 * formula.variables + 2
  pub marks : length m.marks.items ≡ 2 * formula.variables + 2
  pub clear : IsClear ByKey m.marks.items
  pub located : AreLocated m.trail.items m.places.items
  pub room : length m.places.items ≡ 2 * formula.variables + 2
  pub listed : AreListed formula.variables m.trail.items m.order.heap.items
  pub few : length formula.clauses + length m.learned.lines < 2 ^ 32

-- and the moves led to it
pub record IsAt (formula : Formula) (m : Machine) : Type 0 where
  pub held : IsHeld formula m
  pub run : Runs formula first_state (moves_of m.moves.items m.learned.lines) (state_of m.trail.items m.learned)
  pub jumps : jump_count m.moves.items ≡ length m.learned.lines
  pub lines : length m.learned.lines ≤ length m.moves.items

-- all is the same but the trail and its tables
pub record IsSameBut (m n : Machine) : Type 0 where
  pub learned : n.learned ≡ m.learned
  pub moves : n.moves.items ≡ m.moves.items
  pub places : length n.values.items ≡ length m.values.items
  pub marks : n.marks.items ≡ m.marks.items
  pub room : length n.places.items ≡ length m.places.items

-- all is the same but the marks of the analysis, and the order of decisions
pub record IsSameButMarks (m n : Machine) : Type 0 where
  pub trail : n.trail ≡ m.trail
  pub values : n.values ≡ m.values
  pub places : n.places ≡ m.places
  pub learned : n.learned ≡ m.learned
  pub moves : n.moves ≡ m.moves

-- all is the same but the order of decisions
pub record IsSameButOrder (m n : Machine) : Type 0 where
  pub trail : n.trail ≡ m.trail
  pub values : n.values ≡ m.values
  pub places : n.places ≡ m.places
  pub marks : n.marks ≡ m.marks
  pub learned : n.learned ≡ m.learned
  pub moves : n.moves ≡ m.moves
