-- What follows from the definitions of hits.
use Rattle.std.specs.Prelude.{◌≡◌, ℕ, ◌≤◌, ◌<◌, ◌^◌, false, not, List, length, Option, Some, Ok, slice_get}
use Rattle.c_values.specs.declared.kinds.Kind.{Kind}
use Rattle.c_values.specs.declared.operators.UnaryOp.TheVariants.{Not}
use Rattle.cfa.specs.States.{value_in}
use Rattle.cfa.specs.declared.expr.Expr.{Expr}
use Rattle.cfa.specs.declared.expr.Expr.TheVariants.{Unary}
use Rattle.cfa.specs.declared.parts.Function.{Function}
use Rattle.cfa.specs.declared.parts.GraphParts.{GraphParts}
use Rattle.cfa.specs.declared.state.Predicates.{Predicates}
use Rattle.cfa.specs.declared.state.State.{State}
use Rattle.c_meaning.specs.Starts.{start_of}
use Rattle.c_meaning.specs.declared.ends.Ends.{Ends}
use Rattle.c_meaning.specs.declared.input.Input.{Input}
use Rattle.path_runner.specs.Masks.{holds}
use Rattle.path_runner.specs.Paths.{path_of}
use Rattle.path_runner.specs.declared.path.PathRecord.{PathRecord}
use Rattle.goals.specs.GoalForm.{GoalForm}
use Rattle.goals.specs.declared.plan.Plan.{Plan}
use Rattle.measurer_hits.specs.hits.Hits.{AreHits, Hits}
use Rattle.measurer_hits.specs.hits.Inputs.{InputHits}

-- two lists of the goals that a run hits are one
abbrev pub OneListOfHits : Type 0
OneListOfHits = (plan : Plan) (ends : Ends) (run : PathRecord) (xs ys : List ℕ) → AreHits plan ends run xs → AreHits plan ends run ys → xs ≡ ys

-- the path of an input up to a limit of edges hits a goal
abbrev pub PathHits : GraphParts → Function → Predicates → Plan → Ends → ℕ → GoalForm → Input → Type 0
PathHits parts entry p plan ends limit goal input = Hits plan ends goal (path_of parts input p limit (start_of parts entry input.words))

-- then the input's run hits it
abbrev pub HitsByTheirPaths : Type 0
HitsByTheirPaths =
    (parts : GraphParts) (entry : Function) (p : Predicates) (plan : Plan) (ends : Ends) (limit : ℕ) (goal : GoalForm) (input : Input) →
    PathHits parts entry p plan ends limit goal input → InputHits parts entry p plan ends goal input

-- where the run of an input hits a goal, and has no more edges than the limit, its path up to the limit hits it
abbrev pub PathsOfHits : Type 0
PathsOfHits =
    (parts : GraphParts) (entry : Function) (p : Predicates) (plan : Plan) (ends : Ends) (limit : ℕ) (goal : GoalForm) (input : Input)
    (h : InputHits parts entry p plan ends goal input) → length h.run.moves ≤ limit → PathHits parts entry p plan ends limit goal input

-- Where an expression has a value in a state, of 64 bits, the absent predicate of it says there what the predicate of its
-- negation says (6.5.3.3p5). The rows have the expression and the negation for the scope.
abbrev pub AbsentIsNegation : Type 0
AbsentIsNegation =
    (s : State) (scope : ℕ) (row negated : List (Option Expr)) (e : Expr) (kind : Kind) (value : ℕ) →
    slice_get row scope ≡ Some (Some e) → slice_get negated scope ≡ Some (Some (Unary Not e kind)) → value_in s e ≡ Ok value → value < 2 ^ 64 →
    not (holds scope s row) ≡ holds scope s negated

-- and where it is out of scope, or traps, neither the predicate nor that of its negation holds
abbrev pub AbsentElsewhere : Type 0
AbsentElsewhere =
    (s : State) (scope : ℕ) (row : List (Option Expr)) → ((e : Expr) (value : ℕ) → slice_get row scope ≡ Some (Some e) → value_in s e ≡ Ok value → ⊥) → holds scope s row ≡ false
