-- Which goals of a plan a recorded run hits (FQL: Holzer, Schallhart, Tautschnig, Veith, VMCAI 2009 and ASE 2010).
use Rattle.std.specs.Prelude.{◌≡◌, ℕ, suc, ◌↔◌, List, Option, Some, None, IsTrue, slice_get}
use Rattle.std.specs.List.{Contains}
use Rattle.std.specs.List.Sorted.{IsStrictlyIncreasing}
use Rattle.std.specs.Option.{IsSomeAnd}
use Rattle.c_meaning.specs.declared.ends.Ends.{Ends}
use Rattle.path_runner.specs.Counted.{counts_end}
use Rattle.path_runner.specs.declared.path.PathRecord.{PathRecord}
use Rattle.patterns.specs.Letters.{form}
use Rattle.patterns.specs.Segments.{HasSegment}
use Rattle.patterns.specs.declared.path_view.PathView.{PathView}
use Rattle.goals.specs.GoalForm.{GoalForm}
use Rattle.goals.specs.declared.plan.PassingPattern.{PassingPattern}
use Rattle.goals.specs.declared.plan.Plan.{Plan}

-- the states and edges of a run
abbrev pub path_in : PathRecord → PathView
path_in run = record { nodes = run.nodes; edges = run.edges; masks = run.masks }

-- the passing clause, with its own anchors. Each run meets one that is absent.
abbrev pub MeetsPassing : Option PassingPattern → PathView → Type 0
MeetsPassing None path = Unit {0}
MeetsPassing (Some p) path = HasSegment p.first p.last (form p.pattern) path

-- The run's end is counted, some segment matches the goal's pattern, with the anchors of the cover clause, and the passing
-- clause is met.
pub record Hits (plan : Plan) (ends : Ends) (goal : GoalForm) (run : PathRecord) : Type 0 where
  pub counted : IsTrue (counts_end ends run.end)
  pub goal_matches : HasSegment plan.first plan.last (form goal.pattern) (path_in run)
  pub passing_matches : MeetsPassing plan.passing (path_in run)

-- goals are numbered from 1
pub record HitsNumber (plan : Plan) (ends : Ends) (run : PathRecord) (number : ℕ) : Type 0 where
  pub place : ℕ
  pub is : number ≡ suc place
  pub hits : IsSomeAnd (slice_get plan.goals place) (λ goal. Hits plan ends goal run)

-- the numbers of exactly the goals that the run hits, rising
pub record AreHits (plan : Plan) (ends : Ends) (run : PathRecord) (numbers : List ℕ) : Type 0 where
  pub rise : IsStrictlyIncreasing numbers
  pub exact : (n : ℕ) → Contains numbers n ↔ HitsNumber plan ends run n
