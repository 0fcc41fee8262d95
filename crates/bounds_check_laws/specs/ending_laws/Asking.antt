-- Plans that ask at which nodes runs end.
use Rattle.std.specs.Prelude.{◌≡◌, ◌≢◌, ◌⊎◌, ℕ, true, false, [], ◌∷◌, Option, Some, None, slice_get}
use Rattle.cfa.specs.declared.expr.CellPlace.{CellPlace}
use Rattle.cfa.specs.declared.expr.CellPlace.TheVariants.{Global, Local}
use Rattle.cfa.specs.declared.parts.Edge.{Edge}
use Rattle.cfa.specs.declared.parts.Function.{Function}
use Rattle.cfa.specs.declared.parts.GraphParts.{GraphParts}
use Rattle.cfa.specs.declared.parts.Operation.TheVariants.{Return}
use Rattle.cfa.specs.declared.state.Predicates.{Predicates}
use Rattle.patterns.specs.declared.letter.Letter.TheVariants as letter
use Rattle.patterns.specs.declared.pattern.Pattern.TheVariants as pattern
use Rattle.c_meaning.specs.declared.ends.Ends.{Ends}
use Rattle.c_meaning.specs.declared.input.Input.{Input}
use Rattle.goals.specs.GoalForm.{GoalForm}
use Rattle.goals.specs.declared.plan.Plan.{Plan}
use Rattle.measurer_hits.specs.hits.Inputs.{InputHitsWithin}
use Rattle.measurer_hits.specs.run_laws.Laws.{IsGiven}
use Rattle.measurer_hits.specs.run_laws.Leaving.{LeavesBounds}

-- control comes to a node at all: it is the entry's first, or some edge leads to it
abbrev pub IsLedTo : GraphParts → Function → ℕ → Type 0
IsLedTo parts entry node = (node ≡ entry.entry) ⊎ ((at : ℕ) × (e : Edge) × (slice_get parts.edges at ≡ Some e) × (e.target ≡ node))

-- the pattern of a goal is the letter of one node
abbrev pub AsksFor : ℕ → GoalForm → Type 0
AsksFor node goal = goal.pattern ≡ pattern.Letter (letter.Nodes (node ∷ []))

-- A plan asks of each node that control can come to, other than the entry's exit, whether a run ends there: it has a goal of
-- that node alone, a match ends where the run does, and nothing more is asked of a run.
pub record AsksForEachEnd (parts : GraphParts) (entry : Function) (plan : Plan) : Type 0 where
  pub first : plan.first ≡ false
  pub last : plan.last ≡ true
  pub passing : plan.passing ≡ None
  pub each : (node : ℕ) → IsLedTo parts entry node → node ≢ entry.exit → (place : ℕ) × (goal : GoalForm) × (slice_get plan.goals place ≡ Some goal) × AsksFor node goal

-- a cell that is named without an index, or none
abbrev pub IsPlain : Option CellPlace → Type 0
IsPlain None = Unit {0}
IsPlain (Some place) = (cell : ℕ) × ((place ≡ Global cell) ⊎ (place ≡ Local cell))

-- each return from the entry itself, where it was called again, puts the result into such a cell
abbrev pub ReturnsPlainly : GraphParts → Function → Type 0
ReturnsPlainly parts entry =
    (at call : ℕ) (e : Edge) (dest : Option CellPlace) → slice_get parts.edges at ≡ Some e → e.source ≡ entry.exit → e.operation ≡ Return call dest → IsPlain dest

-- No input leaves the bounds, a plan asks whether runs end at each node that control can come to, and of all these goals but
-- that of the entry's exit it is refuted that an input hits them within the bounds.
pub record EndsAreRefuted (turns frames answers : ℕ) (parts : GraphParts) (entry : Function) (p : Predicates) (plan : Plan) (ends : Ends) : Type 0 where
  pub plainly : ReturnsPlainly parts entry
  pub asks : AsksForEachEnd parts entry plan
  pub stay : (input : Input) → IsGiven entry input → ¬ LeavesBounds turns frames answers parts entry input
  pub unhit : (place node : ℕ) (goal : GoalForm) → slice_get plan.goals place ≡ Some goal → AsksFor node goal → node ≢ entry.exit → (input : Input) → IsGiven entry input → ¬ InputHitsWithin parts entry p plan ends turns frames answers goal input
