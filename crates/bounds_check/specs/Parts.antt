-- What only the code's parts ask of each other.
use Rattle.std.specs.Prelude.{◌≡◌, ℕ, ◌+◌, ◌*◌, ◌^◌, ◌≤◌, not, List, length, slice_index}
use Rattle.std.specs.List.{list_any}
use Rattle.bit_words.specs.Words.{Grows}
use Rattle.c_values.specs.declared.kinds.Kind.{Kind}
use Rattle.cfa.specs.Each.{Each}
use Rattle.circuit.specs.Truth.{World}
use Rattle.circuit.specs.Wires.{IsWire, input_count, lit_holds}
use Rattle.circuit.specs.declared.lit.Gate.{Gate}
use Rattle.circuit.specs.declared.lit.Lit.{Lit}
use Rattle.goal_formula.specs.Forms.{IsFormulaOf}
use Rattle.goal_formula.specs.Steps.{HasWires}
use Rattle.goal_formula.specs.declared.goal.GoalFormula.{GoalFormula}
use Rattle.unwinder.specs.input_words.Worlds.{world_length}
use Rattle.unwinder.specs.Lists.{entries_in}
use Rattle.unwinder.specs.declared.unwound.Entry.{Entry}
use Rattle.unwinder.specs.declared.unwound.Unwound.{Unwound}
use Rattle.bounds_check.specs.Sufficing.{EndsWithoutZero}

-- ---- literals

-- a literal that holds where no entry that holds has ended
pub record IsOpenBit (old new : List Gate) (entries : List Entry) (l : Lit) : Type 0 where
  pub wire : IsWire new l
  pub value : (w : World) → lit_holds new l w ≡ not (list_any (λ (e : Entry). lit_holds old e.ended w) (entries_in old entries w))

-- a formula with its input bits says that no entry that holds has ended, by a literal of a circuit that has grown
pub record SaysOpen (old : List Gate) (entries : List Entry) (parameters : List Kind) (answers : ℕ) (g : GoalFormula) : Type 0 where
  pub new : List Gate
  pub grows : Grows old new (2 * length entries + 1)
  pub root : Lit
  pub is_open : IsOpenBit old new entries root
  pub says : IsFormulaOf new root parameters answers g

-- what the clauses ask of an unwinding: entries over the wires of its circuit, whose inputs are the bits of the function's
-- inputs, and room for their gates
pub record CanSay (parameters : List Kind) (u : Unwound) : Type 0 where
  pub wires : Each u.entries (λ k e. HasWires u.circuit e)
  pub room : length u.circuit + (2 * length u.entries + 1) ≤ 2 ^ 30
  pub inputs : input_count u.circuit ≡ world_length parameters u.bounds.answers
  pub most_answers : u.bounds.answers ≤ 256

-- ---- answers

-- numbers, and then zeros alone
pub record IsCut (long short : List ℕ) : Type 0 where
  pub same : (n : ℕ) → slice_index short n ≡ slice_index long n
  pub few : length short ≤ length long
  pub ends : EndsWithoutZero short
