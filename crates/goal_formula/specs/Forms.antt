-- The formula of a literal of a circuit: the clause form of its cone of influence, with the variables of the input bits.
use Rattle.std.specs.Prelude.{◌≡◌, ◌⊎◌, ℕ, ◌+◌, ◌*◌, ◌<◌, ◌≤◌, ◌↔◌, Bool, true, false, List, [], ◌∷◌, length, slice_index_or, Option, Some, IsSome}
use Rattle.std.specs.List.{Contains, filter_map, flat_map, list_all, range_with_len}
use Rattle.c_values.specs.declared.kinds.Kind.{Kind}
use Rattle.circuit.specs.Truth.{World}
use Rattle.circuit.specs.Wires.{IsCircuit, IsWire, held, lit_holds}
use Rattle.circuit.specs.declared.lit.Gate.{Gate}
use Rattle.circuit.specs.declared.lit.Gate.TheVariants.{Input, And}
use Rattle.circuit.specs.declared.lit.Lit.{Lit}
use Rattle.clause_form.specs.Cone.{IsInCone, gate_on}
use Rattle.clause_form.specs.Encoding.{cone_clauses, is_over, variable_of, wire_clauses}
use Rattle.cnf.specs.Formulas.{Satisfies, is_true_clause}
use Rattle.unwinder.specs.input_words.Worlds.{world_length}
use Rattle.goal_formula.specs.Bits.{AgreeOnInputs, AreInputsApart, AreInputsOver, Gives, IsShaped, input_variables}
use Rattle.goal_formula.specs.declared.goal.GoalFormula.{GoalFormula}

-- the variables of a circuit's inputs, in the order of the inputs, where `variable` lists those of the wires from 1 on
abbrev pub variables_of_inputs : List Gate → List (Option ℕ) → List (Option ℕ)
variables_of_inputs [] variable = []
variables_of_inputs (g ∷ gates) [] = []
variables_of_inputs (Input number ∷ gates) (v ∷ variable) = v ∷ variables_of_inputs gates variable
variables_of_inputs (And a b ∷ gates) (v ∷ variable) = variables_of_inputs gates variable

-- a variable is that of a conjunction that the root reaches
pub record IsOfGate (gates : List Gate) (root : Lit) (variable : List (Option ℕ)) (n : ℕ) : Type 0 where
  pub wire : ℕ
  pub left : Lit
  pub right : Lit
  pub gate : gate_on gates wire ≡ Some (And left right)
  pub inside : IsInCone gates root wire
  pub number : variable_of variable wire ≡ Some n

-- an assignment satisfies the clauses of the gates, whether or not it satisfies what says that the root holds
abbrev pub AgreesWithGates : List Gate → List (Option ℕ) → (ℕ → Bool) → Type 0
AgreesWithGates gates variable value = list_all (is_true_clause value) (flat_map (wire_clauses gates variable) (range_with_len 1 (length gates))) ≡ true

-- A formula is the clause form of a root's cone over the gates of a circuit: the wires of the cone have the variables,
-- numbered from 1 in their order, and the clauses are those of these gates and of the root. The circuit's inputs are the
-- input bits, in order. So each variable is an input bit or a gate, and in every assignment that agrees with the gates the
-- input bits determine all variables.
pub record IsConeForm (gates : List Gate) (root : Lit) (variable : List (Option ℕ)) (g : GoalFormula) : Type 0 where
  pub circuit : IsCircuit gates
  pub root_wire : IsWire gates root
  pub wires : length variable ≡ length gates
  pub cone : (wire : ℕ) → 0 < wire → IsSome (variable_of variable wire) ↔ IsInCone gates root wire
  pub numbers : filter_map (λ v. v) variable ≡ range_with_len 1 g.formula.variables
  pub clauses : g.formula.clauses ≡ cone_clauses gates variable root
  pub inputs : input_variables g ≡ variables_of_inputs gates variable
  pub each : (n : ℕ) → 0 < n → n ≤ g.formula.variables → Contains (input_variables g) (Some n) ⊎ IsOfGate gates root variable n
  pub determined : (value other : ℕ → Bool) → AgreesWithGates gates variable value → AgreesWithGates gates variable other → AgreeOnInputs value other g
      → (n : ℕ) → 0 < n → n ≤ g.formula.variables → value n ≡ other n

-- an assignment gives each variable of a wire of these gates what the wire holds in a world; `variable` may list more wires
abbrev pub AgreesBelow : List Gate → List (Option ℕ) → (ℕ → Bool) → World → Type 0
AgreesBelow gates variable value w =
    (wire n : ℕ) → wire ≤ length gates → variable_of variable wire ≡ Some n → value n ≡ slice_index_or (held gates w) wire false

-- in each assignment that satisfies a formula, the wires of these gates that have variables are what they are in some world
abbrev pub HasWorlds : List Gate → GoalFormula → Type 0
HasWorlds gates g = (value : ℕ → Bool) → Satisfies value g.formula → (w : World) × AgreesBelow gates g.variable value w

-- A formula with its input bits says that a literal of a circuit holds: where an assignment satisfies it, the literal holds
-- in each world that has the input bits of the assignment, and each world in which it holds gives its bits to an assignment
-- that does. It is the clause form of the literal's cone.
pub record IsFormulaOf (gates : List Gate) (root : Lit) (parameters : List Kind) (answers : ℕ) (g : GoalFormula) : Type 0 where
  pub shape : IsShaped parameters answers g
  pub sound : (value : ℕ → Bool) (w : World) → Satisfies value g.formula → Gives value (input_variables g) w → lit_holds gates root w ≡ true
  pub complete : (w : World) → length w ≡ world_length parameters answers → lit_holds gates root w ≡ true → (value : ℕ → Bool) × Gives value (input_variables g) w × Satisfies value g.formula
  pub worlds : HasWorlds gates g
  pub variable : List (Option ℕ)
  pub form : IsConeForm gates root variable g
  pub inputs_over : AreInputsOver g
  pub inputs_apart : AreInputsApart g
  pub few_variables : g.formula.variables ≤ length gates
  pub over : list_all (list_all (is_over g.formula.variables)) g.formula.clauses ≡ true
  pub few_clauses : length g.formula.clauses ≤ 3 * g.formula.variables + 1
