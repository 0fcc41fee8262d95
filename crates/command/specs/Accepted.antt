-- What accepted certificates say.
use Rattle.std.specs.Prelude.{◌≡◌, ◌-◌, List, Some, slice_get}
use Rattle.bounds_check.specs.Leaving.{NoneLeaves}
use Rattle.cfa.specs.declared.parts.GraphParts.{GraphParts}
use Rattle.cfa.specs.declared.state.Predicates.{Predicates}
use Rattle.goals.specs.GoalForm.{GoalForm}
use Rattle.goals.specs.declared.plan.Plan.{Plan}
use Rattle.suite.specs.Made.{NoneHits}
use Rattle.command_words.specs.Reading.{Text}
use Rattle.command_words.specs.Request as asks
use Rattle.command_words.specs.Request.{Checking, CheckingBounds, check, request_of}
use Rattle.command.specs.declared.status.Status.{Status}
use Rattle.command.specs.declared.status.Status.TheVariants as status
use Rattle.command.specs.Queries.{IsPlanned}
use Rattle.command.specs.Ranges.{within}
use Rattle.command.specs.Reads.{Reads}
use Rattle.command.specs.Runs.{EntryFunction, entry_of}
use Rattle.command.specs.Sources.{HaveAutomaton}

-- The sources have an automaton, and the query this goal over it, and no input at all has a run from the entry within the bounds
-- that hits the goal.
pub record IsRefutedGoal (r : Reads) (m : Checking) : Type 0 where
  pub graph : GraphParts
  pub automaton : HaveAutomaton r.holds m.sources graph
  pub entry : EntryFunction
  pub entry_is : entry_of graph m.entry ≡ Some entry
  pub predicates : Predicates
  pub plan : Plan
  pub planned : IsPlanned graph m.query predicates plan
  pub goal : GoalForm
  pub goal_is : slice_get plan.goals (m.goal - 1) ≡ Some goal
  pub none : NoneHits graph entry.function predicates plan (within m.bounds) m.ends goal

-- Where `check` is done, the goal is refuted, whatever bytes the certificate has.
abbrev pub Certifies : Reads → List Text → Status → Type 0
Certifies r words s = (m : Checking) → request_of words ≡ Some (check m) → s ≡ status.Done → IsRefutedGoal r m

-- The sources have an automaton, and no input at all has a run from the entry that leaves the bounds.
pub record AreSufficient (r : Reads) (m : CheckingBounds) : Type 0 where
  pub graph : GraphParts
  pub automaton : HaveAutomaton r.holds m.sources graph
  pub entry : EntryFunction
  pub entry_is : entry_of graph m.entry ≡ Some entry
  pub none : NoneLeaves graph entry.function (within m.bounds)

-- Where `check-bounds` is done, the bounds suffice, whatever bytes the certificate has.
abbrev pub CertifiesBounds : Reads → List Text → Status → Type 0
CertifiesBounds r words s = (m : CheckingBounds) → request_of words ≡ Some (asks.check_bounds m) → s ≡ status.Done → AreSufficient r m
