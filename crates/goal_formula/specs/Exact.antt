-- When a formula is exact for a goal: its models are the inputs whose runs within the bounds hit the goal.
use Rattle.std.specs.Prelude.{◌≡◌, ℕ, ◌+◌, ◌*◌, ◌≤◌, Bool, true, List, length, Option}
use Rattle.std.specs.List.{list_all}
use Rattle.c_meaning.specs.declared.ends.Ends.{Ends}
use Rattle.c_meaning.specs.declared.input.Input.{Input}
use Rattle.cfa.specs.Contexts.{Pair}
use Rattle.cfa.specs.declared.parts.Function.{Function}
use Rattle.cfa.specs.declared.parts.GraphParts.{GraphParts}
use Rattle.cfa.specs.declared.state.Predicates.{Predicates}
use Rattle.circuit.specs.declared.lit.Gate.{Gate}
use Rattle.circuit.specs.declared.lit.Lit.{Lit}
use Rattle.clause_form.specs.Encoding.{is_over}
use Rattle.cnf.specs.Formulas.{Satisfies}
use Rattle.goals.specs.GoalForm.{GoalForm}
use Rattle.goals.specs.declared.plan.Plan.{Plan}
use Rattle.measurer_hits.specs.hits.Inputs.{InputHitsWithin}
use Rattle.unwinder.specs.input_words.Worlds.{world_of}
use Rattle.unwinder_reach.specs.reached.Reaching.{AreReached}
use Rattle.unwinder_reach.specs.declared.reached.bounds.Bounds.{Bounds}
use Rattle.unwinder_reach.specs.declared.reached.step.Step.{Step}
use Rattle.unwinder.specs.Lists.{IsInputFor}
use Rattle.unwinder.specs.Unwinding.{most_wires}
use Rattle.goal_formula.specs.Bits.{AreInputsApart, AreInputsOver, Gives, IsShaped, input_from, input_variables}
use Rattle.goal_formula.specs.Forms.{IsConeForm}
use Rattle.goal_formula.specs.Sizes.{goal_size}
use Rattle.goal_formula.specs.declared.goal.GoalFormula.{GoalFormula}

-- the most variables: the wires of the unwinding, and 48 for each unit of the goal's size
abbrev pub most_variables : GraphParts → Predicates → Function → Bounds → Plan → GoalForm → List Pair → List (List Step) → ℕ
most_variables parts predicates f bounds plan goal pairs steps =
    most_wires parts predicates f bounds pairs steps + 48 * goal_size plan goal (length pairs)

-- A goal's formula is exact. The goal is hit within the bounds by the run of the input of each assignment that satisfies the
-- formula; each input whose run hits it so gives its bits to an assignment that does. The formula is the clause form of the
-- cone of a root over the gates of a circuit whose inputs are the input bits: so each variable is an input bit or a gate, and
-- the input bits determine all variables in every assignment that agrees with the gates, whether or not any satisfies the
-- formula. The input bits have variables of the formula, no two the same one. The formula has few variables, few clauses, and
-- literals of its variables alone.
pub record IsExact (parts : GraphParts) (predicates : Predicates) (f : Function) (bounds : Bounds) (ends : Ends) (plan : Plan) (goal : GoalForm) (g : GoalFormula) : Type 0 where
  pub shape : IsShaped f.parameters bounds.answers g
  pub sound : (value : ℕ → Bool) → Satisfies value g.formula → InputHitsWithin parts f predicates plan ends bounds.turns bounds.frames bounds.answers goal (input_from value f.parameters g)
  pub complete : (input : Input) → IsInputFor f input → InputHitsWithin parts f predicates plan ends bounds.turns bounds.frames bounds.answers goal input
      → (value : ℕ → Bool) × Gives value (input_variables g) (world_of f.parameters bounds.answers input) × Satisfies value g.formula
  pub gates : List Gate
  pub root : Lit
  pub variable : List (Option ℕ)
  pub form : IsConeForm gates root variable g
  pub inputs_over : AreInputsOver g
  pub inputs_apart : AreInputsApart g
  pub pairs : List Pair
  pub steps : List (List Step)
  pub reached : AreReached parts bounds f pairs steps
  pub few_variables : g.formula.variables ≤ most_variables parts predicates f bounds plan goal pairs steps
  pub over : list_all (list_all (is_over g.formula.variables)) g.formula.clauses ≡ true
  pub few_clauses : length g.formula.clauses ≤ 3 * g.formula.variables + 1
