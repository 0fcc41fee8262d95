-- What only the code's parts ask of each other.
use Rattle.std.specs.Prelude.{◌≡◌, ℕ, ◌+◌, ◌*◌, ◌^◌, ◌<◌, ◌≤◌, ◌↔◌, Bool, true, List, length, take, Option, None, Some, slice_get, slice_index_or}
use Rattle.automata.specs.Standing.{HasMatch}
use Rattle.bit_words.specs.Words.{Grows}
use Rattle.c_values.specs.declared.kinds.Kind.{Kind}
use Rattle.cfa.specs.Each.{Each}
use Rattle.cfa.specs.declared.parts.Function.{Function}
use Rattle.circuit.specs.Truth.{World}
use Rattle.circuit.specs.Wires.{IsWire, input_count, lit_holds}
use Rattle.circuit.specs.declared.lit.Gate.{Gate}
use Rattle.circuit.specs.declared.lit.Gate.TheVariants.{Input}
use Rattle.circuit.specs.declared.lit.Lit.{Lit}
use Rattle.clause_form.specs.Parts.{IsGateAt}
use Rattle.goals.specs.declared.plan.PassingPattern.{PassingPattern}
use Rattle.goals.specs.declared.plan.Plan.{Plan}
use Rattle.unwinder.specs.input_words.Worlds.{world_length}
use Rattle.patterns.specs.Match.{Form}
use Rattle.patterns.specs.declared.letter.Letter.{Letter}
use Rattle.unwinder.specs.declared.unwound.Entry.{Entry}
use Rattle.unwinder.specs.declared.unwound.Unwound.{Unwound}
use Rattle.goal_formula.specs.Forms.{IsFormulaOf, variables_of_inputs}
use Rattle.goal_formula.specs.Hitting.{EntriesHit, FirstHolds, MeetsPassing}
use Rattle.goal_formula.specs.Sizes.{passing_size, pattern_size}
use Rattle.goal_formula.specs.Steps.{HasWires, steps_in}
use Rattle.goal_formula.specs.declared.goal.GoalFormula.{GoalFormula}

-- ---- literals

-- the most gates of an automaton over so many entries
abbrev pub most_match_gates : ℕ → ℕ → ℕ
most_match_gates size entries = 8 * size * entries

-- the most gates of a goal over so many entries
abbrev pub most_hit_gates : Plan → Form Letter → ℕ → ℕ
most_hit_gates plan pattern entries =
    most_match_gates (pattern_size pattern) entries + most_match_gates (passing_size plan.passing) entries + 2 * entries + 2

-- a literal that holds where what the entries tell has a match
pub record IsMatchBit (old new : List Gate) (entries : List Entry) (pattern : Form Letter) (first last : Bool) (l : Lit) : Type 0 where
  pub wire : IsWire new l
  pub value : (w : World) → FirstHolds old entries w → (lit_holds new l w ≡ true) ↔ HasMatch pattern first last (steps_in old entries w)

-- one that holds where it meets the passing clause
pub record IsPassingBit (old new : List Gate) (entries : List Entry) (passing : Option PassingPattern) (l : Lit) : Type 0 where
  pub wire : IsWire new l
  pub value : (w : World) → FirstHolds old entries w → (lit_holds new l w ≡ true) ↔ MeetsPassing passing (steps_in old entries w)

-- one that holds where the entries hit a goal
pub record IsHitBit (old new : List Gate) (entries : List Entry) (plan : Plan) (pattern : Form Letter) (l : Lit) : Type 0 where
  pub wire : IsWire new l
  pub value : (w : World) → FirstHolds old entries w → (lit_holds new l w ≡ true) ↔ EntriesHit plan pattern old entries w

-- ---- clauses

-- the variable of each input of the gates at the first places, in order, and what a circuit keeps of these gates
pub record AreInputVariables (gates : List Gate) (variable : List (Option ℕ)) (places : ℕ) (bits : List (Option ℕ)) : Type 0 where
  pub size : length bits ≡ input_count (take places gates)
  pub each : (number : ℕ) (v : Option ℕ) → slice_get bits number ≡ Some v → (place : ℕ) × (slice_get gates place ≡ Some (Input number)) × (slice_index_or variable place None ≡ v)
  pub all : (place number : ℕ) → place < places → slice_get gates place ≡ Some (Input number) → slice_get bits number ≡ Some (slice_index_or variable place None)
  pub listed : bits ≡ variables_of_inputs (take places gates) (take places variable)
  pub made : (place : ℕ) (g : Gate) → place < places → slice_get gates place ≡ Some g → IsGateAt gates place g

-- a formula with its input bits says that the entries hit a goal, by a literal of a circuit that has grown
pub record SaysHit (old new : List Gate) (entries : List Entry) (plan : Plan) (pattern : Form Letter) (parameters : List Kind) (answers : ℕ) (g : GoalFormula) : Type 0 where
  pub grows : Grows old new (most_hit_gates plan pattern (length entries))
  pub root : Lit
  pub hit : IsHitBit old new entries plan pattern root
  pub says : IsFormulaOf new root parameters answers g

-- what the clauses of a goal ask of an unwinding of a function: entries over the wires of its circuit, whose inputs are the
-- bits of the function's inputs, and room for the gates of the goal
pub record CanSay (f : Function) (u : Unwound) (plan : Plan) (pattern : Form Letter) : Type 0 where
  pub wires : Each u.entries (λ k e. HasWires u.circuit e)
  pub some : 0 < length u.entries
  pub room : length u.circuit + most_hit_gates plan pattern (length u.entries) < 2 ^ 30
  pub inputs : input_count u.circuit ≡ world_length f.parameters u.bounds.answers
  pub most_answers : u.bounds.answers ≤ 256
