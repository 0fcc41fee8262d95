-- When a formula says that inputs leave bounds: its models are the inputs that do.
use Rattle.std.specs.Prelude.{◌≡◌, ℕ, ◌+◌, ◌*◌, ◌≤◌, Bool, true, List, [], length, Option}
use Rattle.std.specs.List.{list_all}
use Rattle.c_meaning.specs.declared.input.Input.{Input}
use Rattle.cfa.specs.Contexts.{Pair}
use Rattle.cfa.specs.declared.parts.Function.{Function}
use Rattle.cfa.specs.declared.parts.GraphParts.{GraphParts}
use Rattle.cfa.specs.declared.state.Predicates.{Predicates}
use Rattle.circuit.specs.declared.lit.Gate.{Gate}
use Rattle.circuit.specs.declared.lit.Lit.{Lit}
use Rattle.clause_form.specs.Encoding.{is_over}
use Rattle.cnf.specs.Formulas.{Satisfies}
use Rattle.cnf.specs.declared.formula.Formula.{Formula}
use Rattle.goal_formula.specs.Bits.{AreInputsApart, AreInputsOver, Gives, IsShaped, input_from, input_variables}
use Rattle.goal_formula.specs.Forms.{IsConeForm}
use Rattle.goal_formula.specs.declared.goal.GoalFormula.{GoalFormula}
use Rattle.unwinder.specs.input_words.Worlds.{world_length, world_of}
use Rattle.unwinder_reach.specs.reached.Reaching.{AreReached}
use Rattle.unwinder_reach.specs.declared.reached.bounds.Bounds.{Bounds}
use Rattle.unwinder_reach.specs.declared.reached.step.Step.{Step}
use Rattle.measurer_hits.specs.run_laws.Leaving.{LeavesBounds}
use Rattle.unwinder.specs.Lists.{IsInputFor}
use Rattle.unwinder_reach.specs.unwinding_size.Sizes.{size_sum}

-- whether an input leaves bounds is no question of predicates
abbrev pub no_predicates : Predicates
no_predicates = record { texts = []; meanings = [] }

-- an input leaves the bounds
abbrev pub Leaves : GraphParts → Function → Bounds → Input → Type 0
Leaves parts f bounds input = LeavesBounds bounds.turns bounds.frames bounds.answers parts f input

-- no input of the function does
abbrev pub NoneLeaves : GraphParts → Function → Bounds → Type 0
NoneLeaves parts f bounds = (input : Input) → IsInputFor f input → ¬ Leaves parts f bounds input

-- the most variables: the bits of the inputs, 32 for each unit of the size sum, and 136 for each pair of node and context
abbrev pub most_variables : GraphParts → Function → Bounds → List Pair → List (List Step) → ℕ
most_variables parts f bounds pairs steps =
    world_length f.parameters bounds.answers + 32 * size_sum parts no_predicates f pairs steps + 136 * length pairs

-- A formula with its input bits is exact for leaving the bounds. The input of each assignment that satisfies it leaves them;
-- each input that leaves them gives its bits to an assignment that does. The formula is the clause form of the cone of a root
-- over the gates of a circuit whose inputs are the input bits: so each variable is an input bit or a gate, whose value the
-- input bits determine. The input bits have variables of the formula, no two the same one. The formula has few variables, few
-- clauses, and literals of its variables alone.
pub record IsExactForLeaving (parts : GraphParts) (f : Function) (bounds : Bounds) (g : GoalFormula) : Type 0 where
  pub shape : IsShaped f.parameters bounds.answers g
  pub sound : (value : ℕ → Bool) → Satisfies value g.formula → Leaves parts f bounds (input_from value f.parameters g)
  pub complete : (input : Input) → IsInputFor f input → Leaves parts f bounds input
      → (value : ℕ → Bool) × Gives value (input_variables g) (world_of f.parameters bounds.answers input) × Satisfies value g.formula
  pub gates : List Gate
  pub root : Lit
  pub variable : List (Option ℕ)
  pub form : IsConeForm gates root variable g
  pub inputs_over : AreInputsOver g
  pub inputs_apart : AreInputsApart g
  pub pairs : List Pair
  pub steps : List (List Step)
  pub reached : AreReached parts bounds f pairs steps
  pub few_variables : g.formula.variables ≤ most_variables parts f bounds pairs steps
  pub over : list_all (list_all (is_over g.formula.variables)) g.formula.clauses ≡ true
  pub few_clauses : length g.formula.clauses ≤ 3 * g.formula.variables + 1

-- a formula alone is one for leaving the bounds where it is that of some bits with which it is exact
pub record IsForLeaving (parts : GraphParts) (f : Function) (bounds : Bounds) (formula : Formula) : Type 0 where
  pub bits : GoalFormula
  pub same : bits.formula ≡ formula
  pub exact : IsExactForLeaving parts f bounds bits
